-- The headers that most frames have.
use Rattle.std.specs.Prelude.{◌≡◌, ℕ, List, [], ◌∷◌}
use Rattle.std.specs.List.{flat_map}
use Rattle.frame_layout.specs.Key.{flow_part}
use Rattle.frame_layout.specs.declared.layout.Header.{Header}
use Rattle.frame_layout.specs.declared.layout.Kind.{Kind}
use Rattle.frame_layout.specs.declared.layout.Kind.TheVariants.{Plain, Plain6, Other}
use Rattle.frame_layout.specs.declared.layout.Layer.TheVariants.{Ethernet, Ip4, Ip6, Tcp}

-- Ethernet without tags, IPv4, and TCP
abbrev pub plain_headers : List Header
plain_headers =
    record { layer = Ethernet; at = 0 } ∷ record { layer = Ip4; at = 14 } ∷ record { layer = Tcp; at = 34 } ∷ []

-- Ethernet without tags, IPv6, and TCP
abbrev pub plain6_headers : List Header
plain6_headers =
    record { layer = Ethernet; at = 0 } ∷ record { layer = Ip6; at = 14 } ∷ record { layer = Tcp; at = 54 } ∷ []

-- the headers are those that it says
abbrev pub IsKind : Kind → List Header → Type 0
IsKind Plain hs = hs ≡ plain_headers
IsKind Plain6 hs = hs ≡ plain6_headers
IsKind Other hs = Unit {0}

-- the key's bytes where the headers are Ethernet without tags, IPv4, and TCP
abbrev pub plain_key : List ℕ → List ℕ
plain_key f = flat_map (λ h. flow_part f h.layer h.at) plain_headers
