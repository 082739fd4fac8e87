-- The records that were written so far.
use Rattle.std.specs.Prelude.{◌≡◌, ℕ, Bool, List, ◌++◌, Option, Some, ◌⊎◌}
use Rattle.std.specs.Io.KnownBytes.{Appends}
use Rattle.off_io.specs.Told.{Told}
use Rattle.pcap_io.specs.declared.place.Place.{Place}
use Rattle.pcap_io.specs.Capture.{Packet}
use Rattle.pcap_io.specs.Places.{found_at}
use Rattle.offload_model.specs.Passing.{Passes}
use Rattle.offload_model.specs.Steps.{GoesOn, ending_behind, in_front}
use Rattle.segmenting.specs.declared.segment.SegFault.{SegFault}
use Rattle.segmenting.specs.Segmenting.{ending_of as fault_ending}
use Rattle.command_answers.specs.declared.status.Status.{Status}
use Rattle.command_answers.specs.declared.status.Status.TheVariants.{Ok, WriteFault}
use Rattle.command_answers.specs.Ending.{ending_of, Ends, FlushesAt, HasBlocks}
use Rattle.wire_model.specs.declared.counts.Counts.{Counts}
use Rattle.wire_model.specs.declared.wiring.Wiring.{Wiring}
use Rattle.wire_model.specs.Counting.{counts_from}
use Rattle.wire_model.specs.Passing.{wiring}

-- the bytes that are gone are k records, whatever follows them, and what stands on the wire of them was written
abbrev pub Wired : ℕ → Wiring → ℕ → Place → Place → Option (List ℕ) → Option (List ℕ) → List ℕ → List ℕ → Type 0
Wired blocks o k from to old new bytes left =
    (gone : List ℕ) × (done : List ℕ) × (bytes ≡ gone ++ left)
    × GoesOn (wiring blocks o from) (wiring blocks o to) k gone done × Appends old new done

-- and their packets were counted
abbrev pub CountedThem : Wiring → Counts → Counts → Place → Place → List ℕ → List ℕ → Type 0
CountedThem o old new from to bytes left =
    (gone : List ℕ) × (rs : List Packet) × (bytes ≡ gone ++ left)
    × ((tail : List ℕ) → found_at from (gone ++ tail) ≡ in_front rs (found_at to tail))
    × (new ≡ counts_from o old rs)

-- behind k records one is at fault, and the status says so, or the last flush failed
abbrev pub GivesUp : ℕ → SegFault → Status → Type 0
GivesUp k fault status = (ending_of status ≡ Some (ending_behind k (fault_ending fault))) ⊎ (status ≡ WriteFault)

-- Over n blocks the records from this place on were written, up to the end that the status says; what was left of the
-- source, and what the sink held, before and after.
pub record WiredAll (n : ℕ) (o : Wiring) (before now : Counts) (place : Place) (old new held held' : Option (List ℕ))
    (is_flushed : Bool) (status : Status) : Type 0 where
  pub given : Told old new (Ends (Passes (wiring n o place) held held') (ending_of status))
  pub flushed : FlushesAt held' is_flushed (ending_of status)
  pub blocks : HasBlocks n status
  pub counts : status ≡ Ok → Told old new (λ bytes left. now ≡ counts_from o before (found_at place bytes).packets)
