-- The VXLAN header (RFC 7348, section 5), of the frame `f` at the place.
use Rattle.std.specs.Prelude.{ℕ, ◌+◌, ◌*◌, ◌/◌, ◌%◌, Bool, ◌==◌, nat_le, List, length}
use Rattle.net_bytes.specs.Bytes.{byte, be16}

-- the UDP port that is assigned to VXLAN
abbrev pub port : ℕ
port = 4789

-- the one that Linux took before one was assigned
abbrev pub old_port : ℕ
old_port = 8472

-- its bytes are there
abbrev pub is_there : List ℕ → ℕ → Bool
is_there f at = nat_le (at + 8) (length f)

abbrev pub flags : List ℕ → ℕ → ℕ
flags f at = byte f at

-- the I flag: the network identifier is valid
abbrev pub has_identifier : List ℕ → ℕ → Bool
has_identifier f at = flags f at / 8 % 2 == 1

-- the 24 bits of the VXLAN network identifier
abbrev pub network_identifier : List ℕ → ℕ → ℕ
network_identifier f at = 256 * be16 f (at + 4) + byte f (at + 6)
