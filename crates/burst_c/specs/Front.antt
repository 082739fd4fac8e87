-- IP packets with an Ethernet header in front of them.
use Rattle.std.specs.Prelude.{ℕ, ◌/◌, Bool, ◌==◌, ◌||◌, if◌then◌else◌, List, [], ◌∷◌}
use Rattle.net_bytes.specs.Bytes.{byte}

-- the version of the packet behind 14 bytes (RFC 791, section 3.1; RFC 8200, section 3)
abbrev pub version_behind : List ℕ → ℕ
version_behind f = byte f 14 / 16

abbrev pub is_ip_behind : List ℕ → Bool
is_ip_behind f = version_behind f == 4 || version_behind f == 6

-- addresses of zeros, and the type of IPv4 (RFC 894) or of IPv6 (RFC 2464)
abbrev pub front_for : List ℕ → List ℕ
front_for f =
    0 ∷ 0 ∷ 0 ∷ 0 ∷ 0 ∷ 0 ∷ 0 ∷ 0 ∷ 0 ∷ 0 ∷ 0 ∷ 0
    ∷ (if version_behind f == 4 then 0x08 ∷ 0x00 ∷ [] else 0x86 ∷ 0xdd ∷ [])
