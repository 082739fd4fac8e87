-- The IPv6 header (RFC 8200, section 3), of the frame `f` at the place.
use Rattle.std.specs.Prelude.{ℕ, ◌+◌, ◌/◌, Bool, ◌==◌, ◌&&◌, nat_le, List, length}
use Rattle.net_bytes.specs.Bytes.{byte, be16, part}

-- its 40 bytes are there, and the first says version 6
abbrev pub is_there : List ℕ → ℕ → Bool
is_there f at = nat_le (at + 40) (length f) && byte f at / 16 == 6

abbrev pub payload_length : List ℕ → ℕ → ℕ
payload_length f at = be16 f (at + 4)

abbrev pub next_header : List ℕ → ℕ → ℕ
next_header f at = byte f (at + 6)

abbrev pub hop_limit : List ℕ → ℕ → ℕ
hop_limit f at = byte f (at + 7)

abbrev pub source : List ℕ → ℕ → List ℕ
source f at = part f (at + 8) 16

abbrev pub destination : List ℕ → ℕ → List ℕ
destination f at = part f (at + 24) 16
