-- The IPv4 header without options (RFC 791, section 3.1), of the frame `f` at the place.
use Rattle.std.specs.Prelude.{ℕ, ◌+◌, ◌/◌, ◌%◌, ◌<◌, Bool, ◌==◌, ◌&&◌, nat_le, nat_lt, List, length}
use Rattle.net_bytes.specs.Bytes.{byte, be16, part}

-- its 20 bytes are there, and the first says version 4 and a header of five words
abbrev pub is_there : List ℕ → ℕ → Bool
is_there f at = nat_le (at + 20) (length f) && byte f at == 0x45

abbrev pub total_length : List ℕ → ℕ → ℕ
total_length f at = be16 f (at + 2)

abbrev pub identification : List ℕ → ℕ → ℕ
identification f at = be16 f (at + 4)

-- three flags (reserved, "don't fragment", "more fragments") and 13 bits of fragment offset
abbrev pub flags_and_offset : List ℕ → ℕ → ℕ
flags_and_offset f at = be16 f (at + 6)

-- the reserved flag is zero, as it must be
abbrev pub IsReservedZero : List ℕ → ℕ → Type 0
IsReservedZero f at = byte f (at + 6) < 0x80

abbrev pub is_reserved_zero : List ℕ → ℕ → Bool
is_reserved_zero f at = nat_lt (byte f (at + 6)) 0x80

-- the flag "don't fragment"
abbrev pub dont_fragment : List ℕ → ℕ → Bool
dont_fragment f at = byte f (at + 6) / 0x40 % 2 == 1

-- a whole datagram: no more fragments, and offset zero
abbrev pub is_whole : List ℕ → ℕ → Bool
is_whole f at = flags_and_offset f at % 0x4000 == 0

abbrev pub time_to_live : List ℕ → ℕ → ℕ
time_to_live f at = byte f (at + 8)

abbrev pub protocol : List ℕ → ℕ → ℕ
protocol f at = byte f (at + 9)

abbrev pub header_checksum : List ℕ → ℕ → ℕ
header_checksum f at = be16 f (at + 10)

abbrev pub source : List ℕ → ℕ → List ℕ
source f at = part f (at + 12) 4

abbrev pub destination : List ℕ → ℕ → List ℕ
destination f at = part f (at + 16) 4
