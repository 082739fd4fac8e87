-- One more packet, on lists of runs.
use Rattle.std.specs.Prelude.{◌≡◌, ℕ, ◌<◌, Bool, true, false, Option, Some, None, List, [], ◌∷◌, ◌++◌, slice_index_or}
use Rattle.std.specs.List.{AllByRecursion}
use Rattle.maximal_runs.specs.Items.{first_number, AreItems}
use Rattle.pcap_io.specs.Capture.{Packet}
use Rattle.offload_model.specs.Mergeable.{IsMergeableWithin}
use Rattle.offload_model.specs.declared.limits.Limits.{Limits}
use Rattle.offload_model.specs.Rounds.{is_of, number_of}

-- the last of the first n elements that pass the test
abbrev pub IsLastBelow : {X : Type 0} → (X → Bool) → List X → ℕ → Option ℕ → Type 0
IsLastBelow {X} test xs n None = (k : ℕ) (d : X) → k < n → test (slice_index_or xs k d) ≡ false
IsLastBelow {X} test xs n (Some i) =
    (i < n) × ((d : X) → test (slice_index_or xs i d) ≡ true)
    × ((k : ℕ) (d : X) → i < k → k < n → test (slice_index_or xs k d) ≡ false)

-- the runs, within limits each, are those of the packets so far, whatever these are, with one more packet, whose number
-- is above those that begin a run
abbrev pub TakesPacket : Limits → List (List Packet) → Packet → List (List Packet) → Type 0
TakesPacket limits old x new =
    (packets : List Packet)
    → AllByRecursion (λ run. first_number number_of run < x.number) old
    → AreItems (IsMergeableWithin limits) is_of number_of packets old
    → AreItems (IsMergeableWithin limits) is_of number_of (packets ++ (x ∷ [])) new

-- runs that began before n still do, and so does the new packet's
abbrev pub KeepsEarly : List (List Packet) → Packet → List (List Packet) → Type 0
KeepsEarly old x new =
    (n : ℕ)
    → AllByRecursion (λ run. first_number number_of run < n) old
    → x.number < n
    → AllByRecursion (λ run. first_number number_of run < n) new
