-- The bytes of a record in the blocks that it is read into.
use Rattle.std.specs.Prelude.{ℕ, ◌≡◌, ◌+◌, ◌-◌, ◌<◌, List, [], ◌∷◌, ◌++◌, length, min, slice_range, Result, Ok, Err}
use Rattle.raw_block.specs.Views.{SoleState}
use Rattle.pcap_io.specs.declared.place.Place.{Place}
use Rattle.pcap_io.specs.declared.faults.InFault.{InFault}
use Rattle.pcap_io.specs.declared.faults.InFault.TheVariants.{Cap, ReadFault}
use Rattle.pcap_io.specs.Places.{short_record}
use Rattle.pcap_io.specs.Reading.{FewerGone}

-- `len` bytes of blocks, from a place of the first one on
abbrev pub data_of : ℕ → ℕ → List SoleState → List ℕ
data_of from len [] = []
data_of from len (s ∷ ss) = slice_range s.bytes from (from + min len (2048 - from))
    ++ data_of 0 (len - (2048 - from)) ss

-- `size` bytes of a body, in blocks from the first byte of each on
abbrev pub GivesData : Place → ℕ → Result (Unit {0}) InFault → List SoleState → List ℕ → List ℕ → Type 0
GivesData place size (Ok _) soles bytes left = bytes ≡ data_of 0 size soles ++ left
GivesData place size (Err (Cap fault)) soles bytes left = (length bytes < size) × (fault ≡ short_record place)
    × (left ≡ [])
GivesData place size (Err ReadFault) soles bytes left = FewerGone bytes left size

-- the body of a record: the bytes in front of the frame, and the frame behind 64 bytes of headroom
abbrev pub GivesFrame : Place → List ℕ → ℕ → Result (Unit {0}) InFault → List SoleState → List ℕ → List ℕ → Type 0
GivesFrame place front len (Ok _) soles bytes left = bytes ≡ (front ++ data_of 64 len soles) ++ left
GivesFrame place front len (Err (Cap fault)) soles bytes left = (length bytes < length front + len)
    × (fault ≡ short_record place) × (left ≡ [])
GivesFrame place front len (Err ReadFault) soles bytes left = FewerGone bytes left (length front + len)
