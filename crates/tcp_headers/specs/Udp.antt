-- The UDP header (RFC 768), of the frame `f` at the place.
use Rattle.std.specs.Prelude.{ℕ, ◌+◌, Bool, nat_le, List, length}
use Rattle.net_bytes.specs.Bytes.{be16}

-- its bytes are there
abbrev pub is_there : List ℕ → ℕ → Bool
is_there f at = nat_le (at + 8) (length f)

abbrev pub source_port : List ℕ → ℕ → ℕ
source_port f at = be16 f at

abbrev pub destination_port : List ℕ → ℕ → ℕ
destination_port f at = be16 f (at + 2)

-- the length of header and data
abbrev pub udp_length : List ℕ → ℕ → ℕ
udp_length f at = be16 f (at + 4)

-- 0 says that the sender made none
abbrev pub checksum : List ℕ → ℕ → ℕ
checksum f at = be16 f (at + 6)
