-- A VLAN tag behind its type field (IEEE 802.1Q, clause 9.6), of the frame `f` at the place.
use Rattle.std.specs.Prelude.{ℕ, ◌+◌, Bool, ◌==◌, ◌||◌, nat_le, List, length}
use Rattle.net_bytes.specs.Bytes.{be16}

-- its bytes are there
abbrev pub is_there : List ℕ → ℕ → Bool
is_there f at = nat_le (at + 4) (length f)

-- the tag control information: priority, drop eligibility and VLAN identifier
abbrev pub control : List ℕ → ℕ → ℕ
control f at = be16 f at

-- the type field of what follows
abbrev pub next_type : List ℕ → ℕ → ℕ
next_type f at = be16 f (at + 2)

-- the type of a customer tag or of a service tag (IEEE 802.1Q, table 9-1)
abbrev pub is_tag : ℕ → Bool
is_tag kind = kind == 0x8100 || kind == 0x88a8
