-- The conditions of a candidate, one by one.
use Rattle.std.proofs.Common.{◌≡◌, ◌&&◌, ◌==◌, ◌+◌, ◌≤◌, ℕ, Bool, true, false, List, length, Some, refl, sym, ap, ◌∙◌, arith}
use Rattle.std.proofs.Common.{inl, inr}
use Rattle.std.specs.Prelude.{nat_lt, not, if◌then◌else◌}
use Rattle.std.proofs.lemmas.Bool.{and_from, and_parts, cases_Bool, eq-eqb}
use Rattle.frame_layout.specs.Candidate.{IsCandidate, is_length_right, are_flags_plain, all_sums_right}
use Rattle.frame_layout.specs.Headers.{AtHeaders, all_headers, size}
use Rattle.frame_layout.specs.Shape.{Layout, shape_of}
use Rattle.frame_layout.proofs.Lemmas.{decides_candidate, headers_map, inside_all, laid}
use Rattle.frame_causes.specs.Causes.{layout_cause, no_header}
use Rattle.frame_causes.specs.declared.cause.Cause.{Cause}
use Rattle.frame_causes.specs.declared.cause.Cause.TheVariants.{Mergeable, Length, Flags, Empty, Sum}

module _ (f : List ℕ) (l : Layout) where
  abbrev pub lengths : Bool
  lengths = all_headers (is_length_right (length f) f) l.headers

  abbrev pub flags : Bool
  flags = all_headers (are_flags_plain f) l.headers

  abbrev pub sums : Bool
  sums = all_sums_right f no_header l.headers

  abbrev pub payload : Bool
  payload = nat_lt l.payload_at (length f)

  pub sums_right : IsCandidate f (length f) l → sums ≡ true
  sums_right c =
      let all = (decides_candidate f (length f) l).1 c in
      let a = and_parts (length f == length f) (lengths && (flags && (sums && payload))) all in
      let b = and_parts lengths (flags && (sums && payload)) a.1 in
      let d = and_parts flags (sums && payload) b.1 in
      (and_parts sums payload d.1).0

  pub sums_wrong : lengths ≡ true → flags ≡ true → payload ≡ true → (IsCandidate f (length f) l → ⊥) → sums ≡ false
  sums_wrong a b d none = elim (cases_Bool sums) [
    | inl t ↦
        absurd (none ((decides_candidate f (length f) l).0
        (and_from (length f == length f) (lengths && (flags && (sums && payload))) (eq-eqb (length f) (length f) refl)
        (and_from lengths (flags && (sums && payload)) a (and_from flags (sums && payload) b (and_from sums payload t d))))))
    | inr e ↦ e
  ]

-- ---- the first that fails

abbrev first_of : (lengths flags payload sums : Bool) → Cause
first_of a b d s = if not a then Length else (if not b then Flags else (if not d then Empty
    else (if not s then Sum else Mergeable)))

module _ (f : List ℕ) (l : Layout) (a : Bool) (e : lengths f l ≡ a) where
  pub length_is : a ≡ false → Length ≡ layout_cause f l
  length_is x = ap (λ z. first_of z (flags f l) (payload f l) (sums f l)) (sym (e ∙ x))

  module _ (b : Bool) (g : flags f l ≡ b) (at : a ≡ true) where
    behind : (w : Bool) → first_of true w (payload f l) (sums f l) ≡ first_of (lengths f l) w (payload f l) (sums f l)
    behind w = ap (λ z. first_of z w (payload f l) (sums f l)) (sym (e ∙ at))

    pub flags_are : b ≡ false → Flags ≡ layout_cause f l
    flags_are x = ap (λ z. first_of true z (payload f l) (sums f l)) (sym (g ∙ x)) ∙ behind (flags f l)

    module _ (bt : b ≡ true) where
      behind2 : (w s : Bool) → w ≡ payload f l → s ≡ sums f l → first_of true true w s ≡ layout_cause f l
      behind2 w s p q =
          ap (λ z. first_of true z w s) (sym (g ∙ bt))
          ∙ ap (λ z. first_of z (flags f l) w s) (sym (e ∙ at))
          ∙ ap (λ z. first_of (lengths f l) (flags f l) z s) p
          ∙ ap (λ z. first_of (lengths f l) (flags f l) (payload f l) z) q

      pub empty_is : payload f l ≡ false → Empty ≡ layout_cause f l
      empty_is x = behind2 false (sums f l) (sym x) refl

      pub sum_is : payload f l ≡ true → sums f l ≡ false → Sum ≡ layout_cause f l
      sum_is x y = behind2 true false (sym x) (sym y)

      pub merges : payload f l ≡ true → sums f l ≡ true → Mergeable ≡ layout_cause f l
      merges x y = behind2 true true (sym x) (sym y)

-- headers stand before the payload, and so in the bytes that have their shape
pub before_payload : (f : List ℕ) (l : Layout) → shape_of f ≡ Some l
    → AtHeaders (λ layer at. at + size layer ≤ l.payload_at) l.headers
before_payload f l e = inside_all 0 l.payload_at l.headers (laid f l e).0

pub headers_in : (f : List ℕ) (l : Layout) → shape_of f ≡ Some l
    → AtHeaders (λ layer at. at + size layer ≤ length f) l.headers
headers_in f l e =
    let k = laid f l e in
    headers_map (λ layer at h. omega (arith, h, k.1)) l.headers (before_payload f l e)

-- ---- a frame may be merged exactly where there is no cause

all_true : (a b d s : Bool) → first_of a b d s ≡ Mergeable → (a ≡ true) × ((b ≡ true) × ((d ≡ true) × (s ≡ true)))
all_true true true true true e = (refl, (refl, (refl, refl)))
all_true true true true false e = absurd cc
all_true true true false s e = absurd cc
all_true true false d s e = absurd cc
all_true false b d s e = absurd cc

pub candidate_from : (f : List ℕ) (l : Layout) → layout_cause f l ≡ Mergeable → IsCandidate f (length f) l
candidate_from f l e =
    let t = all_true (lengths f l) (flags f l) (payload f l) (sums f l) e in
    (decides_candidate f (length f) l).0
    (and_from (length f == length f) (lengths f l && (flags f l && (sums f l && payload f l))) (eq-eqb (length f) (length f) refl)
    (and_from (lengths f l) (flags f l && (sums f l && payload f l)) t.0
    (and_from (flags f l) (sums f l && payload f l) t.1.0 (and_from (sums f l) (payload f l) t.1.1.1 t.1.1.0))))

pub candidate_to : (f : List ℕ) (l : Layout) → IsCandidate f (length f) l → layout_cause f l ≡ Mergeable
candidate_to f l c =
    let all = (decides_candidate f (length f) l).1 c in
    let a = and_parts (length f == length f) (lengths f l && (flags f l && (sums f l && payload f l))) all in
    let b = and_parts (lengths f l) (flags f l && (sums f l && payload f l)) a.1 in
    let d = and_parts (flags f l) (sums f l && payload f l) b.1 in
    let s = and_parts (sums f l) (payload f l) d.1 in
    sym (merges f l true b.0 true d.0 refl refl s.1 s.0)
