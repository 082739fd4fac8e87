-- What writing one record says of the bytes that were left before it and are left after it, and of what was written.
use Rattle.std.specs.Prelude.{◌≡◌, ℕ, Option, List, [], ◌++◌, Result, Ok, Err}
use Rattle.std.specs.Io.KnownBytes.{Appends, Keeps}
use Rattle.pcap_io.specs.declared.place.Place.{Place}
use Rattle.pcap_io.specs.Capture.{Packet, one_more}
use Rattle.pcap_io.specs.Places.{found_at}
use Rattle.offload_model.specs.Passing.{Passes}
use Rattle.offload_model.specs.Steps.{GoesOn}
use Rattle.reading.specs.declared.record.Stop.{Stop}
use Rattle.reading.specs.declared.record.Stop.TheVariants as stops
use Rattle.segmenting.specs.declared.segment.Moved.{Moved}
use Rattle.segmenting.specs.declared.segment.Moved.TheVariants.{One, End}
use Rattle.segmenting.specs.declared.segment.SegFault.{SegFault}
use Rattle.segmenting.specs.declared.segment.SegFault.TheVariants as faults
use Rattle.segmenting.specs.Segmenting.{WritesNone, ending_of}
use Rattle.wire_model.specs.declared.counts.Counts.{Counts}
use Rattle.wire_model.specs.Counting.{counted}
use Rattle.wire_model.specs.declared.wiring.Wiring.{Wiring}
use Rattle.wire_model.specs.Passing.{wiring}

-- One record is gone and what stands on the wire of it was written; or there is none; or it is at fault.
abbrev pub Moves : ℕ → Wiring → Place → Place → Option (List ℕ) → Option (List ℕ) → Result Moved SegFault → List ℕ
    → List ℕ → Type 0
Moves blocks o from to old new (Ok One) bytes left =
    (gone : List ℕ) × ((done : List ℕ) × ((bytes ≡ gone ++ left)
    × GoesOn (wiring blocks o from) (wiring blocks o to) 1 gone done × Appends old new done))
Moves blocks o from to old new (Ok End) bytes left = (bytes ≡ []) × (left ≡ []) × Keeps old new
Moves blocks o from to old new (Err fault) bytes left = Passes (wiring blocks o from) old new
    (ending_of fault) bytes left × WritesNone fault old new

-- what a stop comes to
abbrev pub IsMovedOf : Stop → Result Moved SegFault → Type 0
IsMovedOf stops.End result = result ≡ Ok End
IsMovedOf (stops.Malformed fault) result = result ≡ Err (faults.Malformed fault)
IsMovedOf (stops.PoolEmpty need) result = result ≡ Err (faults.PoolEmpty need)
IsMovedOf stops.ReadFault result = result ≡ Err faults.ReadFault
IsMovedOf stops.NoMemory result = result ≡ Err faults.NoMemory
IsMovedOf stops.Lacking result = ⊥

-- a record is gone, and its packet was counted
abbrev pub CountsOne : Wiring → Counts → Counts → Place → Place → List ℕ → List ℕ → Type 0
CountsOne o old new from to bytes left =
    (gone : List ℕ) × ((r : Packet) × ((bytes ≡ gone ++ left)
    × ((tail : List ℕ) → found_at from (gone ++ tail) ≡ one_more r (found_at to tail))
    × (new ≡ counted o r old)))
