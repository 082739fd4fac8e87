-- Two frames have no cause exactly where they may be merged.
use Rattle.std.proofs.Common.{◌≡◌, ◌&&◌, ◌==◌, ◌+◌, ◌-◌, ◌*◌, ◌<◌, ℕ, Bool, true, false, Option, None, Some}
use Rattle.std.proofs.Common.{List, [], ◌∷◌, length, refl, sym, ap, ◌∙◌, subst, arith}
use Rattle.std.specs.Prelude.{◌↔◌, not, nat_le, if◌then◌else◌}
use Rattle.std.proofs.lemmas.Bool.{and_from, and_parts, eq-eqb, eqb-true}
use Rattle.net_bytes.specs.Bytes.{byte}
use Rattle.pcap_io.specs.Capture.{Packet}
use Rattle.pcap_io.specs.Limits.{most_frame}
use Rattle.frame_layout.specs.Candidate.{IsCandidate, is_candidate}
use Rattle.frame_layout.specs.Headers.{AreHeadersAlike, all_headers, are_alike_below}
use Rattle.frame_layout.specs.Key.{key_eq, key_of}
use Rattle.frame_layout.specs.Shape.{Layout, shape_of}
use Rattle.frame_layout.specs.declared.layout.Layer.{Layer}
use Rattle.frame_layout.specs.declared.layout.Layer.TheVariants.{Udp, Tcp}
use Rattle.frame_layout.proofs.Lemmas.{decides_alike, decides_candidate, decides_headers, decides_key, decides_le, headers_all, laid}
use Rattle.frame_layout.proofs.Lemmas.{same_key, same_shape}
use Rattle.offload_model.specs.Mergeable.{AreUdpSumsAlike, IsSequenceBehind, IsMergeable}
use Rattle.offload_model.specs.Tests.{are_ids_in_step, are_udp_sums_alike, is_ack_alone, is_length_in_range}
use Rattle.offload_model.specs.Tests.{is_member, is_mergeable_as, is_sequence_behind}
use Rattle.offload_model.proofs.Decides.{decides_mergeable, decides_sequence, decides_udp}
use Rattle.frame_causes.specs.Asks.{total_of}
use Rattle.frame_causes.specs.Causes.{cause_by, cause_of}
use Rattle.frame_causes.specs.Pairs.{are_alike, fits, is_none, line_cause, pair_by, pair_cause}
use Rattle.frame_causes.specs.declared.cause.Cause.{Cause}
use Rattle.frame_causes.specs.declared.cause.Cause.TheVariants as one
use Rattle.frame_causes.specs.declared.pair.PairCause.{PairCause}
use Rattle.frame_causes.specs.declared.pair.PairCause.TheVariants.{Mergeable, First, Second, Flow, Headers, UdpSum}
use Rattle.frame_causes.specs.declared.pair.PairCause.TheVariants.{Longer, Flags, Sequence, Identification, TooLong}
use Rattle.frame_causes.proofs.Deciding.{candidate_from, candidate_to}

-- ---- tests in turn

passed : (b : Bool) (x y : PairCause) → (x ≡ Mergeable → ⊥) → (if not b then x else y) ≡ Mergeable → (b ≡ true) × (y ≡ Mergeable)
passed true x y never e = (refl, e)
passed false x y never e = absurd (never e)

pass : (b : Bool) (x y : PairCause) → b ≡ true → y ≡ Mergeable → (if not b then x else y) ≡ Mergeable
pass true x y t e = e
pass false x y t e = absurd cc

-- the tests of a run of two, of which the first packet's own are known
all_from : (two own first last full ids range short : Bool) → two ≡ true → own ≡ true → first ≡ true → last ≡ true → full ≡ true
    → ids ≡ true → range ≡ true → short ≡ true
    → (two && ((own && (last && true)) && (((full && first) && true) && (ids && (range && short))))) ≡ true
all_from two own first last full ids range short a b c d e f g h = rw (a, b, c, d, e, f, g, h) refl

record AllOf (first last ids range short : Bool) : Type 0 where
  first_is : first ≡ true
  last_is : last ≡ true
  ids_are : ids ≡ true
  range_is : range ≡ true
  short_is : short ≡ true

all_to : (two own first last full ids range short : Bool)
    → (two && ((own && (last && true)) && (((full && first) && true) && (ids && (range && short))))) ≡ true
    → AllOf first last ids range short
all_to two own first last full ids range short e =
    let a = and_parts two ((own && (last && true)) && (((full && first) && true) && (ids && (range && short)))) e in
    let b = and_parts (own && (last && true)) (((full && first) && true) && (ids && (range && short))) a.1 in
    let c = and_parts own (last && true) b.0 in
    let d = and_parts ((full && first) && true) (ids && (range && short)) b.1 in
    let f = and_parts (full && first) true d.0 in
    let g = and_parts ids (range && short) d.1 in
    let h = and_parts range short g.1 in record {
      first_is = (and_parts full first f.0).1;
      last_is = (and_parts last true c.1).0;
      ids_are = g.0;
      range_is = h.0;
      short_is = h.1;
    }

-- the tests of a member
six_from : (a b c d e f : Bool) → a ≡ true → b ≡ true → c ≡ true → d ≡ true → e ≡ true → f ≡ true
    → (a && (b && (c && (d && (e && f))))) ≡ true
six_from a b c d e f x y z u v w = rw (x, y, z, u, v, w) refl

record Six (a b d e f : Bool) : Type 0 where
  there : a ≡ true
  alike : b ≡ true
  udp_sums : d ≡ true
  shorter : e ≡ true
  sequence : f ≡ true

six_to : (a b c d e f : Bool) → (a && (b && (c && (d && (e && f))))) ≡ true → Six a b d e f
six_to a b c d e f t =
    let r = and_parts a (b && (c && (d && (e && f)))) t in
    let s = and_parts b (c && (d && (e && f))) r.1 in
    let u = and_parts c (d && (e && f)) s.1 in
    let v = and_parts d (e && f) u.1 in
    let w = and_parts e f v.1 in record {
      there = r.0;
      alike = s.0;
      udp_sums = v.0;
      shorter = w.0;
      sequence = w.1;
    }

-- ---- a frame that may be merged

none_is : (c : Cause) → is_none c ≡ true → c ≡ one.Mergeable
none_is one.Mergeable e = refl
none_is one.Cut e = absurd cc
none_is one.Fragment e = absurd cc
none_is one.Options e = absurd cc
none_is one.Extension e = absurd cc
none_is one.Layout e = absurd cc
none_is one.Length e = absurd cc
none_is one.Flags e = absurd cc
none_is one.Empty e = absurd cc
none_is one.Sum e = absurd cc

whole : (b : Bool) (c : Cause) → (if not b then one.Cut else c) ≡ one.Mergeable → (b ≡ true) × (c ≡ one.Mergeable)
whole true c e = (refl, e)
whole false c e = absurd cc

-- it is a candidate of its layout, and the other way round
candidate_of : (f : List ℕ) (o : ℕ) (l : Layout) → shape_of f ≡ Some l → is_none (cause_of f o) ≡ true → IsCandidate f o l
candidate_of f o l s e =
    let w = whole (length f == o) (cause_by f (shape_of f)) (none_is (cause_of f o) e) in
    subst (λ (z : ℕ). IsCandidate f z l) (eqb-true (length f) o w.0) (candidate_from f l (sym (ap (cause_by f) s) ∙ w.1))

none_of : (f : List ℕ) (o : ℕ) (l : Layout) → shape_of f ≡ Some l → IsCandidate f o l → is_none (cause_of f o) ≡ true
none_of f o l s c =
    ap (λ (b : Bool). is_none (if not b then one.Cut else cause_by f (shape_of f))) (eq-eqb (length f) o (sym c.whole))
    ∙ ap is_none (ap (cause_by f) s ∙ candidate_to f l (subst (λ (z : ℕ). IsCandidate f z l) c.whole c))

-- ---- two of them

module _ (p q : Packet) (l : Layout) (s : shape_of p.frame ≡ Some l) where
  abbrev f : List ℕ
  f = p.frame

  abbrev g : List ℕ
  g = q.frame

  abbrev m : ℕ
  m = length f - l.payload_at

  own_udp : (ly : Layer) (at : ℕ) → AreUdpSumsAlike f f ly at
  own_udp Udp at = (λ e. e, λ e. e)
  own_udp _ at = tt

  own_sequence : ((k : ℕ) → byte f k < 256) → (ly : Layer) (at : ℕ) → IsSequenceBehind f f (0 * m) ly at
  own_sequence small Tcp at =
      let z : 0 * m ≡ 0 = omega arith in
      rw z (omega (arith, small (at + 4), small (at + 4 + 1), small (at + 4 + 2), small (at + 4 + 2 + 1)))
  own_sequence small _ at = tt

  -- the first packet continues itself
  own_member : ((k : ℕ) → byte f k < 256) → IsCandidate f p.original l → is_member l f 0 p ≡ true
  own_member small c =
      six_from (nat_le l.payload_at (length f)) (are_alike_below l.headers f f l.payload_at) (is_candidate f p.original l)
      (all_headers (are_udp_sums_alike f f) l.headers) (nat_le (length f) (length f)) (all_headers (is_sequence_behind f f (0 * m)) l.headers)
      ((decides_le l.payload_at (length f)).1 (laid f l s).1)
      ((decides_alike l f f).1 (λ k a b. refl))
      ((decides_candidate f p.original l).1 c)
      ((decides_headers (are_udp_sums_alike f f) (AreUdpSumsAlike f f) (decides_udp f f) l.headers).1 (headers_all own_udp l.headers))
      ((decides_le (length f) (length f)).1 (omega arith))
      ((decides_headers (is_sequence_behind f f (0 * m)) (IsSequenceBehind f f (0 * m)) (decides_sequence f f (0 * m)) l.headers).1
      (headers_all (own_sequence small) l.headers))

  step : (1 * m) ≡ m
  step = omega arith

  abbrev ids : Bool
  ids = all_headers (are_ids_in_step f (p ∷ q ∷ [])) l.headers

  abbrev range : Bool
  range = all_headers (is_length_in_range (total_of l p q)) l.headers

  abbrev short : Bool
  short = nat_le (total_of l p q) most_frame

  abbrev sums : Bool
  sums = all_headers (are_udp_sums_alike g f) l.headers

  abbrev behind : ℕ → Bool
  behind n = all_headers (is_sequence_behind f g n) l.headers

  abbrev acks : Bool
  acks = all_headers (is_ack_alone f) l.headers

  -- where no cause is told
  merges : ((k : ℕ) → byte f k < 256) → is_none (cause_of f p.original) ≡ true → is_none (cause_of g q.original) ≡ true
      → pair_by (Some l) p q ≡ Mergeable → is_mergeable_as (Some l) f (p ∷ q ∷ []) ≡ true
  merges small cp cq e =
      let flow = passed (key_eq (key_of g) (key_of f)) Flow (if not (are_alike l p q) then Headers else line_cause l p q) (λ x. cc) e in
      let alike = passed (are_alike l p q) Headers (line_cause l p q) (λ x. cc) flow.1 in
      let both = and_parts (nat_le l.payload_at (length g)) (are_alike_below l.headers g f l.payload_at) alike.0 in
      let a = passed sums UdpSum _ (λ x. cc) alike.1 in
      let b = passed (nat_le (length g) (length f)) Longer _ (λ x. cc) a.1 in
      let c = passed acks Flags _ (λ x. cc) b.1 in
      let d = passed (behind m) Sequence _ (λ x. cc) c.1 in
      let i = passed ids Identification _ (λ x. cc) d.1 in
      let t = passed (fits l p q) TooLong Mergeable (λ x. cc) i.1 in
      let room = and_parts range short t.0 in
      let same : AreHeadersAlike l g f = (decides_alike l g f).0 both.1 in
      let shape : shape_of g ≡ Some l = same_shape f g l s (λ k x y. sym (same k x y)) ((decides_le l.payload_at (length g)).0 both.0) in
      let other : is_candidate g q.original l ≡ true = (decides_candidate g q.original l).1 (candidate_of g q.original l shape cq) in
      all_from true (is_member l f 0 p) acks (is_member l f 1 q) (length f == length f) ids range short refl
      (own_member small (candidate_of f p.original l s cp))
      c.0
      (six_from (nat_le l.payload_at (length g)) (are_alike_below l.headers g f l.payload_at) (is_candidate g q.original l) sums
      (nat_le (length g) (length f)) (behind (1 * m)) both.0 both.1 other a.0 b.0 (ap behind step ∙ d.0))
      (eq-eqb (length f) (length f) refl) i.0 room.0 room.1

  -- and the other way round
  told : key_of g ≡ key_of f → is_mergeable_as (Some l) f (p ∷ q ∷ []) ≡ true → pair_by (Some l) p q ≡ Mergeable
  told key e =
      let t : AllOf acks (is_member l f 1 q) ids range short
      = all_to true (is_member l f 0 p) acks (is_member l f 1 q) (length f == length f) ids range short e in
      let x : Six (nat_le l.payload_at (length g)) (are_alike_below l.headers g f l.payload_at) sums (nat_le (length g) (length f)) (behind (1 * m))
      = six_to (nat_le l.payload_at (length g)) (are_alike_below l.headers g f l.payload_at) (is_candidate g q.original l) sums
      (nat_le (length g) (length f)) (behind (1 * m)) t.last_is in
      pass (key_eq (key_of g) (key_of f)) Flow _ ((decides_key (key_of g) (key_of f)).1 key)
      (pass (are_alike l p q) Headers _ (and_from (nat_le l.payload_at (length g)) (are_alike_below l.headers g f l.payload_at) x.there x.alike)
      (pass sums UdpSum _ x.udp_sums
      (pass (nat_le (length g) (length f)) Longer _ x.shorter
      (pass acks Flags _ t.first_is
      (pass (behind m) Sequence _ (ap behind (sym step) ∙ x.sequence)
      (pass ids Identification _ t.ids_are
      (pass (fits l p q) TooLong Mergeable (and_from range short t.range_is t.short_is) refl)))))))

module _ (p q : Packet) where
  by_shape : (o : Option Layout) → shape_of p.frame ≡ o → ((k : ℕ) → byte p.frame k < 256)
      → is_none (cause_of p.frame p.original) ≡ true → is_none (cause_of q.frame q.original) ≡ true
      → pair_by o p q ≡ Mergeable → is_mergeable_as o p.frame (p ∷ q ∷ []) ≡ true
  by_shape None s small cp cq e = absurd cc
  by_shape (Some l) s small cp cq e = merges p q l s small cp cq e

  from_none : ((k : ℕ) → byte p.frame k < 256) → pair_cause p q ≡ Mergeable → IsMergeable (p ∷ q ∷ [])
  from_none small e =
      let a = passed (is_none (cause_of p.frame p.original)) First _ (λ x. cc) e in
      let b = passed (is_none (cause_of q.frame q.original)) Second (pair_by (shape_of p.frame) p q) (λ x. cc) a.1 in
      (decides_mergeable (p ∷ q ∷ [])).0 (by_shape (shape_of p.frame) refl small a.0 b.0 b.1)

  to_none : IsMergeable (p ∷ q ∷ []) → pair_cause p q ≡ Mergeable
  to_none k =
      let l : Layout = k.0 in
      let s : shape_of p.frame ≡ Some l = k.1.shapes.at 0 p (omega arith) in
      let r : shape_of q.frame ≡ Some l = k.1.shapes.at 1 p (omega arith) in
      let key : key_of q.frame ≡ key_of p.frame = same_key q.frame p.frame l r s (k.1.headers.at 1 p (omega arith)) in
      let all : is_mergeable_as (Some l) p.frame (p ∷ q ∷ []) ≡ true
      = ap (λ (o : Option Layout). is_mergeable_as o p.frame (p ∷ q ∷ [])) (sym s) ∙ (decides_mergeable (p ∷ q ∷ [])).1 k in
      pass (is_none (cause_of p.frame p.original)) First _ (none_of p.frame p.original l s (k.1.candidates.at 0 p (omega arith)))
      (pass (is_none (cause_of q.frame q.original)) Second _ (none_of q.frame q.original l r (k.1.candidates.at 1 p (omega arith)))
      (ap (λ (o : Option Layout). pair_by o p q) s ∙ told p q l s key all))

  pub none_where_mergeable : ((k : ℕ) → byte p.frame k < 256) → (pair_cause p q ≡ Mergeable) ↔ IsMergeable (p ∷ q ∷ [])
  none_where_mergeable small = (from_none small, to_none)
