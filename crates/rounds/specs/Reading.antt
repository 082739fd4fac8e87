-- What reading a round says of the bytes that were left before it and are left after it.
use Rattle.std.specs.Prelude.{ℕ, ◌≡◌, ◌+◌, ◌<◌, ◌≤◌, List, [], ◌∷◌, ◌++◌, length, map, None, Some, ⊤}
use Rattle.pcap_io.specs.declared.place.Place.{Place}
use Rattle.pcap_io.specs.Capture.{Packet, ended}
use Rattle.pcap_io.specs.Laws.{frame_length}
use Rattle.pcap_io.specs.Lengths.{lengths_at}
use Rattle.pcap_io.specs.Places.{found_at, IsReady}
use Rattle.pcap_io.specs.Reading.{Loses}
use Rattle.offload_model.specs.Need.{need_of, needed, round_need}
use Rattle.gro.specs.declared.slot.Slot.{Slot as Held}
use Rattle.gro.specs.Slots.{packet_of}
use Rattle.reading.specs.Reading.{in_front, Passes, Announces}
use Rattle.rounds.specs.declared.round_stages.Halt.{Halt}
use Rattle.rounds.specs.declared.round_stages.Halt.TheVariants as halts
use Rattle.reading.specs.declared.record.Stop.{Stop}
use Rattle.reading.specs.declared.record.Stop.TheVariants as stops
use Rattle.rounds.specs.declared.round_stages.RoundEnd.{RoundEnd}
use Rattle.rounds.specs.declared.round_stages.RoundEnd.TheVariants as ends

-- the bytes that are gone hold just these whole records, and what they begin fits the blocks
abbrev pub Holds : ℕ → Place → List Packet → List ℕ → List ℕ → Type 0
Holds blocks old packets bytes left = (gone : List ℕ) × (bytes ≡ gone ++ left) × ((found_at old gone).packets ≡ packets)
    × (needed (lengths_at old gone) ≤ blocks)

-- Behind whole records stands a lawful header, and with its record they need more than there are blocks. The bytes that
-- are gone say so.
abbrev pub Exceeds : ℕ → ℕ → Place → List Packet → List ℕ → List ℕ → Type 0
Exceeds blocks need old packets bytes left =
    (len : ℕ) × ((more : List ℕ) × ((lengths_at old bytes ≡ map frame_length packets ++ len ∷ more)
    × (need ≡ round_need packets + need_of len) × (blocks < need) × Loses bytes left
    × Announces old (map frame_length packets ++ len ∷ []) bytes left))

abbrev pub GivesRound : ℕ → Place → Place → List Held → RoundEnd → List ℕ → List ℕ → Type 0
GivesRound blocks old new round ends.Full bytes left = Passes old new (map packet_of round) bytes left
GivesRound blocks old new round ends.End bytes left =
    (found_at old bytes ≡ in_front (map packet_of round) (ended None)) × (needed (lengths_at old bytes) ≤ blocks)
    × (left ≡ [])
GivesRound blocks old new round (ends.Malformed fault) bytes left =
    (found_at old bytes ≡ in_front (map packet_of round) (ended (Some fault)))
    × (needed (lengths_at old bytes) ≤ blocks) × Holds blocks old (map packet_of round) bytes left
GivesRound blocks old new round (ends.PoolEmpty need) bytes left = Exceeds blocks need old
    (map packet_of round) bytes left
GivesRound blocks old new round ends.ReadFault bytes left = Holds blocks old (map packet_of round) bytes left
GivesRound blocks old new round ends.NoMemory bytes left = Loses bytes left
GivesRound blocks old new round ends.GivenUp bytes left = Loses bytes left

-- Why a round has no more that isn't given up, and where the reader stands: where memory ran out between two records.
abbrev pub EndsAt : RoundEnd → Place → Type 0
EndsAt ends.GivenUp place = ⊥
EndsAt ends.NoMemory place = place.body ≡ 0
EndsAt _ place = ⊤

-- the end of a round for a stop
abbrev pub IsEndOf : Stop → RoundEnd → Type 0
IsEndOf stops.End end = end ≡ ends.End
IsEndOf (stops.Malformed fault) end = end ≡ ends.Malformed fault
IsEndOf (stops.PoolEmpty need) end = end ≡ ends.PoolEmpty need
IsEndOf stops.ReadFault end = end ≡ ends.ReadFault
IsEndOf stops.NoMemory end = end ≡ ends.NoMemory
IsEndOf stops.Lacking end = ⊥

-- where reading a round halts for a stop: the header of a record whose blocks aren't home is kept
abbrev pub IsHaltOf : Stop → Halt → Type 0
IsHaltOf stops.End halt = halt ≡ halts.Ended ends.End
IsHaltOf (stops.Malformed fault) halt = halt ≡ halts.Ended (ends.Malformed fault)
IsHaltOf (stops.PoolEmpty need) halt = halt ≡ halts.Ended (ends.PoolEmpty need)
IsHaltOf stops.ReadFault halt = halt ≡ halts.Ended ends.ReadFault
IsHaltOf stops.NoMemory halt = halt ≡ halts.Ended ends.NoMemory
IsHaltOf stops.Lacking halt = halt ≡ halts.Lacking

-- of a round that has no more records
abbrev pub IfEnded : Halt → (RoundEnd → Type 0) → Type 0
IfEnded (halts.Ended end) P = P end
IfEnded halts.Lacking P = Unit {0}

-- a full round was taken, and the next one may be
pub record PassesRound (old new : Place) (round : List Held) (budget : ℕ) : Type 0 where
  pub full : length round ≡ budget
  pub file : new.file ≡ old.file
  pub link : new.link ≡ old.link
  pub number : new.number ≡ old.number + budget
  pub ready : IsReady new
