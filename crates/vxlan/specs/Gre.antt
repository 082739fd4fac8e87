-- The header of generic routing encapsulation (RFC 2784, section 2) with a key (RFC 2890, section 2.1) or without one,
-- and with neither checksum nor sequence number, of the frame `f` at the place.
use Rattle.std.specs.Prelude.{ℕ, ◌+◌, Bool, ◌==◌, ◌&&◌, ◌||◌, nat_le, List, length}
use Rattle.net_bytes.specs.Bytes.{be16, be32}

-- the first two bytes: which fields there are, and version 0
abbrev pub flags : List ℕ → ℕ → ℕ
flags f at = be16 f at

-- its four bytes are there, and it has no further field
abbrev pub is_plain : List ℕ → ℕ → Bool
is_plain f at = nat_le (at + 4) (length f) && flags f at == 0

-- its eight bytes are there, of which the last four are a key
abbrev pub is_keyed : List ℕ → ℕ → Bool
is_keyed f at = nat_le (at + 8) (length f) && flags f at == 0x2000

abbrev pub is_there : List ℕ → ℕ → Bool
is_there f at = is_plain f at || is_keyed f at

-- the Ethernet type of what follows
abbrev pub protocol : List ℕ → ℕ → ℕ
protocol f at = be16 f (at + 2)

abbrev pub key : List ℕ → ℕ → ℕ
key f at = be32 f (at + 4)
