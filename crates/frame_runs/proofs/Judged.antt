-- A frame, by its head and the sum of what is behind.
use Rattle.std.proofs.Common.{◌≡◌, ℕ, ◌+◌, ◌-◌, ◌<◌, ◌≤◌, inl, inr, List, length, drop, ap, ◌∙◌, subst, arith, length-append, Some, None, sym}
use Rattle.std.proofs.lemmas.Bool.{cases_lt}
use Rattle.std.proofs.lemmas.List.{get_or_append_left, get_or-drop}
use Rattle.net_bytes.specs.Bytes.{byte}
use Rattle.inet_sum.specs.Stands.{FoldAndLength, StandsFor}
use Rattle.frame_layout.specs.Key.{IsHeadOf}
use Rattle.frame_layout.specs.Shape.{shape_of, Layout}
use Rattle.frame_layout.proofs.Lemmas.{shape_of_head}
use Rattle.frame_layout.specs.Front.{IsPayloadOf}
use Rattle.frame_runs.specs.Frames.{IsFrontOf, AreBytes}
use Rattle.merge_rule.specs.Runs.{IsNoCandidate}

module _ (head f : List ℕ) (front : IsFrontOf head f) where
  pub begins : (k : ℕ) → k < length head → byte f k ≡ byte head k
  begins k h = ap (λ z. byte z k) front.joined ∙ get_or_append_left head front.rest 0 k h

  pub is_long : length head ≤ length f
  is_long = omega (arith, length-append head front.rest, ap length front.joined)

  -- the head has the first 200 bytes, or all
  pub front_of : IsHeadOf head f
  front_of = record { begins = begins; more = is_long; enough = front.enough }

  -- so it has the shape of all
  pub head_shape : AreBytes head → shape_of head ≡ shape_of f
  head_shape own = shape_of_head head front.rest f front.joined (λ k. own k) (omega (arith, front.enough))

  -- and with the sum of what is behind a place of it, all of the frame is known
  pub payload_of : (at : ℕ) (sum : FoldAndLength) → at ≤ length head → AreBytes head → StandsFor sum (drop at f)
      → AreBytes (drop at f) → IsPayloadOf head at sum f
  payload_of at sum within own sums behind = record {
    tail = front.rest;
    joined = front.joined;
    sum = sums;
    in_bytes = λ k. elim (cases_lt k at) [
      | inl l ↦ omega (arith, begins k (omega (arith, l, within)), own k)
      | inr r ↦
          let back : at + (k - at) ≡ k = omega arith in
          subst (λ z. byte f z < 256) back (omega (arith, get_or-drop at f (k - at) 0, behind (k - at)))
    ];
  }

-- headers of at most 200 bytes that the frame has lie in its head
pub in_head : (head f : List ℕ) (at : ℕ) → IsFrontOf head f → at ≤ 200 → at ≤ length f → at ≤ length head
in_head head f at front low within = omega (arith, front.enough, low, within)

-- ---- frames that aren't candidates

pub one_shape : (f : List ℕ) (a b : Layout) → shape_of f ≡ Some a → Some b ≡ shape_of f → a ≡ b
one_shape f a b x y = let both : Some b ≡ Some a = y ∙ x in cc

pub no_shape : (f : List ℕ) (original : ℕ) → shape_of f ≡ None → IsNoCandidate f original
no_shape f original none layout is candidate = let both : None ≡ Some layout = sym none ∙ is in cc

pub no_payload : (f : List ℕ) (original told place : ℕ) (own : Layout) → Some own ≡ shape_of f → told ≡ original → place ≡ own.payload_at → told ≤ place → IsNoCandidate f original
no_payload f original told place own shaped same at short layout is candidate =
    omega (arith, candidate.payload, candidate.whole, ap (λ (z : Layout). z.payload_at) (one_shape f layout own is shaped), same, at, short)
