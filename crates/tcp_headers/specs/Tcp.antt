-- The TCP header (RFC 9293, section 3.1), of the frame `f` at the place.
use Rattle.std.specs.Prelude.{ℕ, ◌+◌, ◌*◌, ◌/◌, ◌%◌, Bool, ◌&&◌, nat_le, List, length}
use Rattle.net_bytes.specs.Bytes.{byte, be16, be32}

-- how many 32-bit words the header has
abbrev pub data_offset : List ℕ → ℕ → ℕ
data_offset f at = byte f (at + 12) / 16

-- its first 20 bytes are there, its data offset counts at least these, and all that it counts is there
abbrev pub is_there : List ℕ → ℕ → Bool
is_there f at = nat_le (at + 20) (length f) && nat_le 5 (data_offset f at)
    && nat_le (at + 4 * data_offset f at) (length f)

abbrev pub source_port : List ℕ → ℕ → ℕ
source_port f at = be16 f at

abbrev pub destination_port : List ℕ → ℕ → ℕ
destination_port f at = be16 f (at + 2)

abbrev pub sequence : List ℕ → ℕ → ℕ
sequence f at = be32 f (at + 4)

abbrev pub acknowledgment : List ℕ → ℕ → ℕ
acknowledgment f at = be32 f (at + 8)

-- the four reserved bits
abbrev pub reserved : List ℕ → ℕ → ℕ
reserved f at = byte f (at + 12) % 16

-- the control bits: CWR 80, ECE 40, URG 20, ACK 10, PSH 08, RST 04, SYN 02, FIN 01
abbrev pub flags : List ℕ → ℕ → ℕ
flags f at = byte f (at + 13)

abbrev pub window : List ℕ → ℕ → ℕ
window f at = be16 f (at + 14)

abbrev pub checksum : List ℕ → ℕ → ℕ
checksum f at = be16 f (at + 16)

abbrev pub urgent_pointer : List ℕ → ℕ → ℕ
urgent_pointer f at = be16 f (at + 18)
