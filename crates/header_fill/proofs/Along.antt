-- Along the headers, from the innermost outward.
use Rattle.std.proofs.Common.{◌≡◌, ℕ, zero, suc, ◌+◌, ◌<◌, List, [], ◌∷◌, length, get_or, slice_set, refl, sym, ap, ◌∙◌, arith}
use Rattle.frame_layout.specs.Headers.{AtHeaders}
use Rattle.frame_layout.specs.Segment.{HasFlags}
use Rattle.frame_layout.specs.declared.layout.Header.{Header}
use Rattle.frame_layout.specs.declared.layout.Layer.{Layer}
use Rattle.frame_layout.specs.declared.layout.Layer.TheVariants.{Ethernet, Ip4, Ip6, Tcp}
use Rattle.frame_layout.specs.Front.{AreAddressesWithin}
use Rattle.offload_model.specs.Edits.{with_edits, put_flags, put_flags_of}
use Rattle.header_fill.specs.Filled.{IsInside, header_before}

-- what holds at each header holds at one
pub at_one : (P : Layer → ℕ → Type 0) (hs : List Header) (i : ℕ) (d : Header) → i < length hs → AtHeaders P hs → P (get_or hs i d).layer (get_or hs i d).at
at_one P [] i d h a = absurd (omega arith)
at_one P (x ∷ xs) zero d h a = a.0
at_one P (x ∷ xs) (suc i) d h a = at_one P xs i d (omega arith) a.1

addresses_inside : (n : ℕ) (layer : Layer) (at : ℕ) → IsInside n layer at → AreAddressesWithin n layer at
addresses_inside n Ip4 at h = h
addresses_inside n Ip6 at h = h
addresses_inside n _ at h = tt

pub before_inside : (hs : List Header) (n i : ℕ) → i < length hs → AtHeaders (IsInside n) hs
    → AreAddressesWithin n (header_before hs i).layer (header_before hs i).at
before_inside hs n zero h a = tt
before_inside hs n (suc i) h a =
    addresses_inside n (header_before hs (suc i)).layer (header_before hs (suc i)).at (at_one (IsInside n) hs i (record { layer = Ethernet; at = 0 }) (omega arith) a)

-- control bits that are those of a frame
pub flags_same : (n : ℕ) (last : List ℕ) (hs : List Header) (f : List ℕ) → AtHeaders (HasFlags n last) hs
    → with_edits (put_flags n) hs f ≡ with_edits (put_flags_of last) hs f
flags_same n last [] f a = refl
flags_same n last (h ∷ hs) f a =
    ap (put_flags n h.layer h.at) (flags_same n last hs f a.1) ∙ at_layer h.layer h.at (with_edits (put_flags_of last) hs f) a.0
  where
    at_layer : (l : Layer) (at : ℕ) (x : List ℕ) → HasFlags n last l at → put_flags n l at x ≡ put_flags_of last l at x
    at_layer Tcp at x e = ap (λ z. slice_set x (at + 13) z) (sym e)
    at_layer _ at x e = refl
