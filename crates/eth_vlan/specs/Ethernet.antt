-- The header of an Ethernet frame (IEEE 802.3, clause 3.2), of the frame `f` at the place.
use Rattle.std.specs.Prelude.{ℕ, ◌+◌, Bool, nat_le, List, length}
use Rattle.net_bytes.specs.Bytes.{be16, part}

-- its bytes are there
abbrev pub is_there : List ℕ → ℕ → Bool
is_there f at = nat_le (at + 14) (length f)

abbrev pub destination : List ℕ → ℕ → List ℕ
destination f at = part f at 6

abbrev pub source : List ℕ → ℕ → List ℕ
source f at = part f (at + 6) 6

abbrev pub ether_type : List ℕ → ℕ → ℕ
ether_type f at = be16 f (at + 12)
