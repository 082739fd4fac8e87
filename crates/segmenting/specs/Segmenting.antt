-- What segmenting one record says of the bytes that were left before it and are left after it, and of what was written.
use Rattle.std.specs.Prelude.{◌≡◌, ℕ, ◌+◌, ◌-◌, ◌≤◌, ◌^◌, map, min, length, Option, List, [], ◌++◌, Result, Ok, Err, ⊤}
use Rattle.std.specs.Io.KnownBytes.{Appends, Keeps}
use Rattle.pcap_io.specs.declared.place.Place.{Place}
use Rattle.pcap_io.specs.declared.faults.CapKind.TheVariants.{BadOffload}
use Rattle.pcap_io.specs.Capture.{Packet, one_more}
use Rattle.pcap_io.specs.Limits.{off_head_size}
use Rattle.pcap_io.specs.Places.{found_at}
use Rattle.offload_model.specs.Need.{need_of, needed}
use Rattle.offload_model.specs.Passing.{Ending, Stopped, AtFault, AtRound, ReadFault, WriteFault, NoMemory, segmenting}
use Rattle.offload_model.specs.Passing.{Passes}
use Rattle.offload_model.specs.Steps.{GoesOn}
use Rattle.segmenting.specs.declared.cut.Refused.{Refused}
use Rattle.segmenting.specs.declared.cut.Refused.TheVariants as refusals
use Rattle.reading.specs.declared.record.Stop.{Stop}
use Rattle.reading.specs.declared.record.Stop.TheVariants as stops
use Rattle.segmenting.specs.declared.segment.Moved.{Moved}
use Rattle.segmenting.specs.declared.segment.Moved.TheVariants.{One, End}
use Rattle.segmenting.specs.declared.segment.SegFault.{SegFault}
use Rattle.segmenting.specs.declared.segment.SegFault.TheVariants as faults

-- a record is a round of its own
abbrev pub ending_of : SegFault → Ending
ending_of (faults.Malformed fault) = Stopped (AtFault fault)
ending_of (faults.PoolEmpty need) = Stopped (AtRound 0 need)
ending_of faults.ReadFault = ReadFault
ending_of faults.WriteFault = WriteFault
ending_of faults.NoMemory = NoMemory

-- nothing was written for a record that isn't given whole, isn't lawful or doesn't fit the blocks
abbrev pub WritesNone : SegFault → Option (List ℕ) → Option (List ℕ) → Type 0
WritesNone faults.WriteFault old new = Unit {0}
WritesNone faults.NoMemory old new = Unit {0}
WritesNone _ old new = Keeps old new

-- One record is gone and its segments were written; or there is none; or it is at fault.
abbrev pub Moves : ℕ → Place → Place → Option (List ℕ) → Option (List ℕ) → Result Moved SegFault → List ℕ → List ℕ
    → Type 0
Moves blocks from to old new (Ok One) bytes left =
    (gone : List ℕ) × ((done : List ℕ) × ((bytes ≡ gone ++ left)
    × GoesOn (segmenting blocks from) (segmenting blocks to) 1 gone done × Appends old new done))
Moves blocks from to old new (Ok End) bytes left = (bytes ≡ []) × (left ≡ []) × Keeps old new
Moves blocks from to old new (Err fault) bytes left = Passes (segmenting blocks from) old new
    (ending_of fault) bytes left × WritesNone fault old new

-- the record that is gone took at least as many blocks as it needs
abbrev pub TakesOne : ℕ → ℕ → Place → Place → List ℕ → List ℕ → Type 0
TakesOne old new from to bytes left =
    (gone : List ℕ) × ((r : Packet) × ((bytes ≡ gone ++ left)
    × ((tail : List ℕ) → found_at from (gone ++ tail) ≡ one_more r (found_at to tail))
    × (min (old + need_of (length r.frame - off_head_size)) (2 ^ 64 - 1) ≤ new)))

-- the need of all records, each a round of its own: the bytes that each offload header has, of either version, aren't
-- read into blocks
abbrev pub records_need : List Packet → ℕ
records_need rs = needed (map (λ r. length r.frame - off_head_size) rs)

-- as many blocks were taken as the whole records need that lie in the bytes that are gone
abbrev pub TakesGone : ℕ → ℕ → Place → List ℕ → List ℕ → Type 0
TakesGone old new from bytes left = (gone : List ℕ) × (bytes ≡ gone ++ left)
    × (min (old + records_need (found_at from gone).packets) (2 ^ 64 - 1) ≤ new)

-- By the answer; of a record that was refused too, or not written. One for which there was no memory, or that exceeds
-- the blocks, isn't read whole.
abbrev pub TakesBy : Result Moved SegFault → ℕ → ℕ → Place → Place → List ℕ → List ℕ → Type 0
TakesBy (Ok One) old new from to bytes left = TakesOne old new from to bytes left
TakesBy (Err (faults.Malformed fault)) old new from to bytes left = TakesGone old new from bytes left
TakesBy (Err faults.ReadFault) old new from to bytes left = TakesGone old new from bytes left
TakesBy (Err faults.WriteFault) old new from to bytes left = TakesGone old new from bytes left
TakesBy _ old new from to bytes left = ⊤

-- what a stop comes to
abbrev pub IsMovedOf : Stop → Result Moved SegFault → Type 0
IsMovedOf stops.End result = result ≡ Ok End
IsMovedOf (stops.Malformed fault) result = result ≡ Err (faults.Malformed fault)
IsMovedOf (stops.PoolEmpty need) result = result ≡ Err (faults.PoolEmpty need)
IsMovedOf stops.ReadFault result = result ≡ Err faults.ReadFault
IsMovedOf stops.NoMemory result = result ≡ Err faults.NoMemory
IsMovedOf stops.Lacking result = ⊥

-- why a record isn't segmented
abbrev pub IsFaultOf : Refused → ℕ → ℕ → SegFault → Type 0
IsFaultOf refusals.BadOffload offset number fault = fault
    ≡ faults.Malformed (record { kind = BadOffload; offset = offset; number = number })
IsFaultOf refusals.WriteFault offset number fault = fault ≡ faults.WriteFault
