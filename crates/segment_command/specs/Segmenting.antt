-- The records that were segmented so far.
use Rattle.std.specs.Prelude.{◌≡◌, ℕ, ◌+◌, ◌-◌, ◌^◌, ◌≤◌, min, Bool, List, ◌++◌, Option, Some, ◌⊎◌}
use Rattle.std.specs.Io.KnownBytes.{Appends}
use Rattle.block_pool.specs.PoolState.{weighed}
use Rattle.off_io.specs.Told.{Told}
use Rattle.pcap_io.specs.declared.place.Place.{Place}
use Rattle.pcap_io.specs.Capture.{Packet}
use Rattle.pcap_io.specs.Places.{found_at}
use Rattle.offload_model.specs.Passing.{segmenting, Passes}
use Rattle.offload_model.specs.Steps.{GoesOn, ending_behind, in_front}
use Rattle.segmenting.specs.declared.segment.SegFault.{SegFault}
use Rattle.segmenting.specs.SegmentState.{SegmentState}
use Rattle.segmenting.specs.Segmenting.{ending_of as fault_ending}
use Rattle.command_answers.specs.declared.status.Status.{Status}
use Rattle.command_answers.specs.declared.status.Status.TheVariants.{Ok, WriteFault}
use Rattle.command_answers.specs.Ending.{ending_of, Ends, FlushesAt, HasBlocks}
use Rattle.segmenting.specs.Segmenting.{records_need}

-- the bytes that are gone are k records, whatever follows them, and their segments were written
abbrev pub Segmented : ℕ → ℕ → Place → Place → Option (List ℕ) → Option (List ℕ) → List ℕ → List ℕ → Type 0
Segmented blocks k from to old new bytes left =
    (gone : List ℕ) × (done : List ℕ) × (bytes ≡ gone ++ left)
    × GoesOn (segmenting blocks from) (segmenting blocks to) k gone done × Appends old new done

-- and they took at least as many blocks as they need
abbrev pub TookThem : ℕ → ℕ → Place → Place → List ℕ → List ℕ → Type 0
TookThem old new from to bytes left =
    (gone : List ℕ) × (rs : List Packet) × (bytes ≡ gone ++ left)
    × ((tail : List ℕ) → found_at from (gone ++ tail) ≡ in_front rs (found_at to tail))
    × (min (old + records_need rs) (2 ^ 64 - 1) ≤ new)

-- behind k records one is at fault, and the status says so, or the last flush failed
abbrev pub GivesUp : ℕ → SegFault → Status → Type 0
GivesUp k fault status = (ending_of status ≡ Some (ending_behind k (fault_ending fault))) ⊎ (status ≡ WriteFault)

-- Over n blocks the records from this place on were segmented, up to the end that the status says; what was left of the
-- source, and what the sink held, before and after.
pub record SegmentedAll (n : ℕ) (run run' : SegmentState) (place : Place) (old new held held' : Option (List ℕ))
    (is_flushed : Bool) (status : Status) : Type 0 where
  pub given : Told old new (Ends (Passes (segmenting n place) held held') (ending_of status))
  pub flushed : FlushesAt held' is_flushed (ending_of status)
  pub blocks : HasBlocks n status
  pub home : (run'.blocks ≡ n) × (run'.home ≡ n)
  pub named : (h : ℕ → ℕ) → weighed h run'.stock ≡ weighed h run.stock
  pub taken : status ≡ Ok → Told old new
      (λ bytes left. min (run.taken + records_need (found_at place bytes).packets) (2 ^ 64 - 1) ≤ run'.taken)
