-- The modes header by header say the same as the modes at each place.
use Rattle.std.proofs.Common.{◌≡◌, ℕ, ◌+◌, ◌*◌, ◌/◌, ◌%◌, Bool, true, false, List, [], ◌∷◌, refl, sym, ap, ◌∙◌, arith}
use Rattle.std.specs.Prelude.{◌==◌, ◌||◌, not, if◌then◌else◌}
use Rattle.std.proofs.lemmas.Bool.{eq-eqb, ne_eqb, eqb-true, eqb-false, and_parts, and_from}
use Rattle.ip_headers.specs.Ip4.{dont_fragment}
use Rattle.frame_layout.specs.Headers.{AtHeaders, size, AreLaid}
use Rattle.frame_layout.specs.declared.layout.Header.{Header}
use Rattle.frame_layout.specs.declared.layout.Layer.{Layer}
use Rattle.frame_layout.specs.declared.layout.Layer.TheVariants.{Ip4, Ip6}
use Rattle.offload_model.specs.Merged.{modes_at, modes_of, modes_behind, fixed_at, is_fixed}
use Rattle.offload_model.specs.Segments.{IsModeLawful}
use Rattle.frame_layout.proofs.Lemmas.{headers_map2}
use Rattle.offload_model.proofs.Modes.{all_past}
use Rattle.segment_rule.specs.Modes.{is_bit_lawful, are_bits_lawful}

-- what `IsModeLawful` says, of any test of places
abbrev LawfulAt : (ℕ → Bool) → List ℕ → Layer → ℕ → Type 0
LawfulAt fixed f Ip4 at = fixed at ≡ true → dont_fragment f at ≡ true
LawfulAt fixed f _ at = Unit {0}

same_modes : (fixed other : ℕ → Bool) (hs : List Header) → AtHeaders (λ l at. fixed at ≡ other at) hs → modes_of fixed hs ≡ modes_of other hs
same_modes fixed other [] e = refl
same_modes fixed other (h ∷ hs) e =
    ap (λ b. modes_at h.layer b (modes_of fixed hs)) e.0 ∙ ap (modes_at h.layer (other h.at)) (same_modes fixed other hs e.1)

-- the modes of a list of headers are the first one's bit and those of the others
modes_first : (modes : ℕ) (h : Header) (hs : List Header) (end : ℕ) → AreLaid (h.at + size h.layer) hs end
    → modes_of (is_fixed modes (h ∷ hs)) (h ∷ hs) ≡ modes_at h.layer (modes % 2 == 1) (modes_of (is_fixed (modes_behind h.layer modes) hs) hs)
modes_first modes h hs end laid =
    ap (modes_at h.layer (is_fixed modes (h ∷ hs) h.at))
    (same_modes (is_fixed modes (h ∷ hs)) (is_fixed (modes_behind h.layer modes) hs) hs (all_past modes h hs end laid))
    ∙ own h.layer (is_fixed (modes_behind h.layer modes) hs h.at) (modes_of (is_fixed (modes_behind h.layer modes) hs) hs)
  where
    own : (l : Layer) (behind : Bool) (x : ℕ) → modes_at l (fixed_at l (h.at == h.at) modes behind) x ≡ modes_at l (modes % 2 == 1) x
    own Ip4 behind x = rw (eq-eqb h.at h.at refl) refl
    own _ behind x = refl

implied : (b d : Bool) → (not b || d) ≡ true → b ≡ true → d ≡ true
implied true d e h = e
implied false d e h = absurd cc

implies : (b d : Bool) → (b ≡ true → d ≡ true) → (not b || d) ≡ true
implies true d e = e refl
implies false d e = refl

halves : (b : Bool) (modes x : ℕ) → (modes % 2 == 1) ≡ b → x ≡ modes / 2 → (if b then 1 else 0) + 2 * x ≡ modes
halves true modes x e h = omega (arith, eqb-true (modes % 2) 1 e)
halves false modes x e h = let odd : modes % 2 ≡ 1 → ⊥ = eqb-false (modes % 2) 1 e in omega (arith, odd)

half : (b : Bool) (modes x : ℕ) → (if b then 1 else 0) + 2 * x ≡ modes → x ≡ modes / 2
half true modes x e = omega arith
half false modes x e = omega arith

even : (modes : ℕ) → not (modes % 2 == 1) ≡ true → 2 * (modes / 2) ≡ modes
even modes e = by (modes % 2 == 1) refl e
  where
    by : (b : Bool) → (modes % 2 == 1) ≡ b → not b ≡ true → 2 * (modes / 2) ≡ modes
    by true s n = absurd cc
    by false s n = let odd : modes % 2 ≡ 1 → ⊥ = eqb-false (modes % 2) 1 s in omega (arith, odd)

module _ (modes : ℕ) (f : List ℕ) (h : Header) (hs : List Header) where
  abbrev fixed : Layer → ℕ → Bool
  fixed l at = fixed_at l (h.at == at) modes (is_fixed (modes_behind l modes) hs at)

  own_from : (l : Layer) → is_bit_lawful modes f l h.at ≡ true → LawfulAt (fixed l) f l h.at
  own_from Ip4 e = rw (eq-eqb h.at h.at refl) (implied (modes % 2 == 1) (dont_fragment f h.at) e)
  own_from _ e = tt

  own_to : (l : Layer) (x : ℕ) → modes_at l (modes % 2 == 1) x ≡ modes → LawfulAt (fixed l) f l h.at → is_bit_lawful modes f l h.at ≡ true
  own_to Ip4 x e q =
      let own : fixed Ip4 h.at ≡ (modes % 2 == 1) = rw (eq-eqb h.at h.at refl) refl in
      implies (modes % 2 == 1) (dont_fragment f h.at) (λ b. q (own ∙ b))
  own_to Ip6 x e q = rw (ne_eqb (modes % 2) 1 (λ o. omega arith)) refl
  own_to _ x e q = refl

  whole : (l : Layer) → is_bit_lawful modes f l h.at ≡ true → modes_at l (modes % 2 == 1) (modes_behind l modes) ≡ modes
  whole Ip4 e = halves (modes % 2 == 1) modes (modes / 2) refl refl
  whole Ip6 e = even modes e
  whole _ e = refl

  back : (l : Layer) (x : ℕ) → modes_at l (modes % 2 == 1) x ≡ modes → x ≡ modes_behind l modes
  back Ip4 x e = half (modes % 2 == 1) modes x e
  back Ip6 x e = omega arith
  back _ x e = e

  raise : (next : ℕ) (l : Layer) (at : ℕ) → is_fixed modes (h ∷ hs) at ≡ is_fixed next hs at → LawfulAt (is_fixed next hs) f l at → LawfulAt (is_fixed modes (h ∷ hs)) f l at
  raise next Ip4 at e q = λ t. q (sym e ∙ t)
  raise next _ at e q = tt

  lower : (next : ℕ) (l : Layer) (at : ℕ) → is_fixed modes (h ∷ hs) at ≡ is_fixed next hs at → LawfulAt (is_fixed modes (h ∷ hs)) f l at → LawfulAt (is_fixed next hs) f l at
  lower next Ip4 at e q = λ t. q (e ∙ t)
  lower next _ at e q = tt

pub bits_from : (modes : ℕ) (f : List ℕ) (start : ℕ) (hs : List Header) (end : ℕ) → AreLaid start hs end → are_bits_lawful modes f hs ≡ true
    → AtHeaders (IsModeLawful modes f hs) hs × (modes_of (is_fixed modes hs) hs ≡ modes)
bits_from modes f start [] end laid e = (tt, sym (eqb-true modes 0 e))
bits_from modes f start (h ∷ hs) end laid e =
    let next : ℕ = modes_behind h.layer modes in
    let p : (is_bit_lawful modes f h.layer h.at ≡ true) × (are_bits_lawful next f hs ≡ true) = and_parts (is_bit_lawful modes f h.layer h.at) (are_bits_lawful next f hs) e in
    let i : AtHeaders (IsModeLawful next f hs) hs × (modes_of (is_fixed next hs) hs ≡ next) = bits_from next f (h.at + size h.layer) hs end laid.1 p.1 in (
      (
        own_from modes f h hs h.layer p.0,
        headers_map2 (raise modes f h hs next) hs (all_past modes h hs end laid.1) i.0,
      ),
      modes_first modes h hs end laid.1 ∙ ap (modes_at h.layer (modes % 2 == 1)) i.1 ∙ whole modes f h hs h.layer p.0,
    )

pub bits_to : (modes : ℕ) (f : List ℕ) (start : ℕ) (hs : List Header) (end : ℕ) → AreLaid start hs end
    → AtHeaders (IsModeLawful modes f hs) hs → modes_of (is_fixed modes hs) hs ≡ modes → are_bits_lawful modes f hs ≡ true
bits_to modes f start [] end laid q e = eq-eqb modes 0 (sym e)
bits_to modes f start (h ∷ hs) end laid q e =
    let next : ℕ = modes_behind h.layer modes in
    let x : ℕ = modes_of (is_fixed next hs) hs in
    let o : modes_at h.layer (modes % 2 == 1) x ≡ modes = sym (modes_first modes h hs end laid.1) ∙ e in
    and_from (is_bit_lawful modes f h.layer h.at) (are_bits_lawful next f hs)
    (own_to modes f h hs h.layer x o q.0)
    (bits_to next f (h.at + size h.layer) hs end laid.1
    (headers_map2 (lower modes f h hs next) hs (all_past modes h hs end laid.1) q.1)
    (back modes f h hs h.layer x o))
