-- The open runs, looked up by their flows' keys.
use Rattle.std.specs.Prelude.{ℕ, ◌≡◌, ◌<◌, ◌⊎◌, true, Option, Some, None}
use Rattle.std.specs.Prelude.{List, [], ◌∷◌, ◌++◌, length, slice_index_or}
use Rattle.maximal_runs.specs.Items.{begins_in}
use Rattle.pcap_io.specs.Capture.{Packet}
use Rattle.offload_model.specs.Mergeable.{IsMergeable}
use Rattle.offload_model.specs.Rounds.{is_of}
use Rattle.merge_rule.specs.Steps.{IsLastBelow}

-- no packet continues the run
abbrev pub IsShut : List Packet → Type 0
IsShut run = (x : Packet) → IsMergeable (run ++ (x ∷ [])) → ⊥

-- what is found of a flow whose last run stands at `last`: that run, or nothing where no packet continues it
abbrev pub IsFound : List (List Packet) → Option ℕ → Option ℕ → Type 0
IsFound rs None found = found ≡ None
IsFound rs (Some i) found = (found ≡ Some i) ⊎ ((found ≡ None) × IsShut (slice_index_or rs i []))

-- each flow's key finds its last run, but that one that no packet continues may not be found
abbrev pub IsIndexOf : (Option (List ℕ) → Option ℕ) → List (List Packet) → Type 0
IsIndexOf look rs = (q : Option (List ℕ)) → (last : Option ℕ)
    × (IsLastBelow (begins_in (is_of q)) rs (length rs) last × IsFound rs last (look q))

-- the run that the last packet is in, where it is open, is what its flow finds
abbrev pub IsLatest : (Option (List ℕ) → Option ℕ) → List (List Packet) → Option ℕ → Type 0
IsLatest look rs None = Unit {0}
IsLatest look rs (Some i) = (i < length rs) × ((q : Option (List ℕ))
    → begins_in (is_of q) (slice_index_or rs i []) ≡ true → look q ≡ Some i)
