-- A segment's headers before its payload, which stays where it lies.
use Rattle.std.proofs.Common.{◌≡◌, ℕ, ◌+◌, ◌*◌, ◌<◌, ◌≤◌, ◌^◌, List, ◌++◌, length, take, drop, min, sym, ap, ◌∙◌, subst, arith, length-drop}
use Rattle.std.proofs.lemmas.List.{length-take-le, take-append-le, drop-drop}
use Rattle.std.proofs.lemmas.Bool.{eqb-true}
use Rattle.std.specs.Prelude.{true, ◌==◌}
use Rattle.inet_sum.specs.Stands.{FoldAndLength, StandsFor}
use Rattle.frame_layout.specs.Headers.{AtHeaders, AreLaid}
use Rattle.offload_model.specs.Mergeable.{IsLengthInRange}
use Rattle.frags.specs.PieceList.{bytes_of}
use Rattle.skb.specs.SkbState.{SkbState, buffer_bytes, head_bytes, head_size}
use Rattle.segment_rule.specs.declared.segmentation.Segmentation.{Segmentation}
use Rattle.segment_rule.specs.Segmentations.{segment_at, segment_from, payload_at}
use Rattle.segment_rule.proofs.Segments.{places, payload_short, segment_ranges}
use Rattle.gso.specs.declared.place.Place.{Place}
use Rattle.gso.specs.Planning.{IsSegmentsReady}
use Rattle.gso.specs.Places.{SegmentsState, IsPlace, IsPayloadPlace, bytes_at, own_at}
use Rattle.gso.proofs.Least.{first_n, behind_n}

module _ (g : SegmentsState) (i : ℕ) (from : Place) (ready : IsSegmentsReady g.skb g.cut g.sums) (is : IsPayloadPlace g i from) where
  abbrev cut : Segmentation
  cut = g.cut

  abbrev f : List ℕ
  f = buffer_bytes g.skb

  abbrev at : ℕ
  at = cut.layout.payload_at

  abbrev own : List ℕ
  own = own_at g from

  pub own_is : own ≡ payload_at cut f i
  own_is = first_n (bytes_at g.skb from) cut.m (min cut.m from.left) (ap (min cut.m) is.place.left) ∙ ap (take cut.m) is.bytes

  pub known_sum : (sum : FoldAndLength) → StandsFor sum (payload_at cut f i) → StandsFor sum own
  known_sum sum stands = subst (StandsFor sum) (sym own_is) stands

  pub last_all : (i + 1 == cut.n) ≡ true → length (drop at f) ≤ (i + 1) * cut.m
  last_all e =
      let all : length (drop at f) ≤ cut.n * cut.m = omega (arith, length-drop at f, ready.of.within) in
      subst (λ (n : ℕ). length (drop at f) ≤ n * cut.m) (sym (eqb-true (i + 1) cut.n e)) all

  module _ (head : List ℕ) (headers : head ≡ take at f) where
    pub head_long : length head ≡ at
    head_long = ap length headers ∙ length-take-le at f (places cut f ready.in_bytes ready.of).within

    pub laid : AreLaid 0 cut.layout.headers (length head)
    laid = subst (AreLaid 0 cut.layout.headers) (sym head_long) (places cut f ready.in_bytes ready.of).laid

    module _ (sum : FoldAndLength) (stands : StandsFor sum own) where
      size : length head + sum.len ≡ at + length (payload_at cut f i)
      size = omega (arith, head_long, stands.1, ap length own_is)

      pub ranges : AtHeaders (IsLengthInRange (length head + sum.len)) cut.layout.headers
      ranges = subst (λ (z : ℕ). AtHeaders (IsLengthInRange z) cut.layout.headers) (sym size) (segment_ranges cut f i ready.in_bytes ready.of)

      pub short : length head + sum.len < 2 ^ 31
      short = omega (arith, size, payload_short cut f i, ready.short, (places cut f ready.in_bytes ready.of).within)

    pub segment_is : (written : List ℕ) → written ++ own ≡ segment_from cut i (head ++ own) → written ++ own ≡ segment_at cut f i
    segment_is written e = e ∙ ap (λ (z : List ℕ). segment_from cut i (z ++ own)) headers ∙ ap (λ (z : List ℕ). segment_from cut i (take at f ++ z)) own_is

-- the frame's headers were copied from its head
pub copied : (s : SkbState) (at n : ℕ) (head new : List ℕ) → new ≡ take n head → n ≡ at → head ≡ head_bytes s → length head ≡ head_size s → at ≤ head_size s → new ≡ take at (buffer_bytes s)
copied s at n head new e k h size front =
    e ∙ ap (λ (z : ℕ). take z head) k ∙ ap (take at) h ∙ sym (take-append-le at (head_bytes s) (bytes_of s.rest) (omega (arith, front, size, ap length h)))

pub own_long : (g : SegmentsState) (i : ℕ) (p : Place) → IsPayloadPlace g i p → length (own_at g p) ≡ min g.cut.m p.left
own_long g i p is = length-take-le (min g.cut.m p.left) (bytes_at g.skb p) (omega (arith, is.place.left))

-- the payload of the next segment lies behind that of this one
pub next_place : (g : SegmentsState) (i n : ℕ) (p q : Place) → IsPayloadPlace g i p → n ≡ min g.cut.m p.left → IsPlace g.skb q → bytes_at g.skb q ≡ drop n (bytes_at g.skb p) → IsPayloadPlace g (i + 1) q
next_place g i n p q is k place e =
    let x : List ℕ = drop g.cut.layout.payload_at (buffer_bytes g.skb) in
    let next : i * g.cut.m + g.cut.m ≡ (i + 1) * g.cut.m = grind arith in
    record {
      place = place;
      bytes = e ∙ behind_n (bytes_at g.skb p) g.cut.m n (k ∙ ap (min g.cut.m) is.place.left) ∙ ap (drop g.cut.m) is.bytes ∙ drop-drop g.cut.m (i * g.cut.m) x ∙ ap (λ (z : ℕ). drop z x) next;
    }
