-- The modes of a merged record, header by header: their lowest bit is the first IP header's, and each further IP header
-- has the next one.
use Rattle.std.specs.Prelude.{ℕ, ◌%◌, Bool, true, not, ◌==◌, ◌&&◌, ◌||◌, List, [], ◌∷◌}
use Rattle.ip_headers.specs.Ip4.{dont_fragment}
use Rattle.frame_layout.specs.declared.layout.Header.{Header}
use Rattle.frame_layout.specs.declared.layout.Layer.{Layer}
use Rattle.frame_layout.specs.declared.layout.Layer.TheVariants.{Ip4, Ip6}
use Rattle.offload_model.specs.Merged.{modes_behind}

-- the bit of an IP header is set only for IPv4 with "don't fragment" (RFC 6864, section 4.1)
abbrev pub is_bit_lawful : ℕ → List ℕ → Layer → ℕ → Bool
is_bit_lawful modes f Ip4 at = not (modes % 2 == 1) || dont_fragment f at
is_bit_lawful modes f Ip6 at = not (modes % 2 == 1)
is_bit_lawful modes f _ at = true

-- each header's bit is lawful, and there is no bit beyond theirs
abbrev pub are_bits_lawful : ℕ → List ℕ → List Header → Bool
are_bits_lawful modes f [] = modes == 0
are_bits_lawful modes f (h ∷ hs) = is_bit_lawful modes f h.layer h.at
    && are_bits_lawful (modes_behind h.layer modes) f hs
