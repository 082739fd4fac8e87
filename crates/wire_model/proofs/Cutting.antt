-- The segments of a packet that is cut: they may be merged, and carry its payload.
use Rattle.std.proofs.Common.{◌≡◌, ◌≢◌, ℕ, zero, suc, ◌+◌, ◌-◌, ◌*◌, ◌%◌, ◌^◌, ◌<◌, ◌≤◌, ◌⊎◌, inl, inr, Bool, true, false, true≢false, List, [], ◌∷◌, ◌++◌, length, map, take, drop, get_or, refl, sym, ap, ◌∙◌, subst, arith, Option, Some, eqb-true}
use Rattle.std.specs.Prelude.{◌==◌, if◌then◌else◌, min}
use Rattle.std.specs.List.{range_with_len}
use Rattle.std.specs.Option.{unwrap_or}
use Rattle.std.proofs.lemmas.Bool.{and_parts, cases_eq, eq-eqb}
use Rattle.std.proofs.lemmas.List.{get_or-drop, length-take, length-drop}
use Rattle.std.proofs.Math.Seq.{take-add}
use Rattle.std.proofs.lemmas.List.{take_all, drop-drop}
use Rattle.ip_headers.specs.Ip4.{identification}
use Rattle.frame_layout.specs.Shape.{Layout, shape_of}
use Rattle.frame_layout.specs.Headers.{AtHeaders, AreHeadersAlike, AreLaid}
use Rattle.frame_layout.specs.Candidate.{AreFlagsPlain, IsCandidate, IsLengthRight}
use Rattle.frame_layout.specs.declared.layout.Header.{Header}
use Rattle.frame_layout.specs.declared.layout.Layer.{Layer}
use Rattle.frame_layout.specs.declared.layout.Layer.TheVariants.{Ip4, Udp, Tcp}
use Rattle.frame_layout.proofs.Lemmas.{IsAlikeAt, alike_at, alike_byte, headers_map, headers_map2, headers_map3, laid, same_shape}
use Rattle.pcap_io.specs.Capture.{Packet}
use Rattle.pcap_io.specs.Limits.{most_frame}
use Rattle.offload_model.specs.Each.{Each, EachButLast}
use Rattle.offload_model.specs.Frames.{AreFlagsSame, AreIdsSame, AreSequencesSame, IsIdBehind, IsIdStep, IsMergedFrame, IsSegment, merged_frame, segment_frame}
use Rattle.offload_model.specs.Laws.{InBytes}
use Rattle.offload_model.specs.Mergeable.{AreIdsInStep, AreUdpSumsAlike, IsAckAlone, IsLengthInRange, IsMergeable, IsMergeableAs, IsSequenceBehind, payloads_of}
use Rattle.offload_model.specs.Merged.{fixed_at, frame_at, frame_of_run, is_fixed, layout_of, modes_behind}
use Rattle.offload_model.specs.Segments.{IsCuttable, IsLawfulSuper, merged_in, segments_by, with_frame}
use Rattle.offload_model.proofs.Decides.{decides_super}
use Rattle.offload_model.proofs.Fronts.{range_less}
use Rattle.offload_model.proofs.Functions.{merged_is, segment_is}
use Rattle.offload_model.proofs.Identity.{determined}
use Rattle.wire_model.specs.Laws.{CutComesBack, CutIsMergeable, PayloadStays}
use Rattle.wire_model.specs.Wire.{cut_head, cut_of, is_cut}

-- ---- lists

times_le : (i n m : ℕ) → i ≤ n → i * m ≤ n * m
times_le zero n m le = omega arith
times_le (suc i) zero m le = absurd (omega arith)
times_le (suc i) (suc n) m le =
    let a : suc i * m ≡ m + i * m = omega arith in
    let b : suc n * m ≡ m + n * m = omega arith in
    omega (arith, times_le i n m (omega arith))

ranged_length : {X Y : Type 0} (g : X → Y) (h : ℕ → X) (s n : ℕ) → length (map g (map h (range_with_len s n))) ≡ n
ranged_length g h s zero = refl
ranged_length g h s (suc n) = ap suc (ranged_length g h (s + 1) n)

ranged_at : {X Y : Type 0} (g : X → Y) (h : ℕ → X) (s n i : ℕ) (d : Y) → i < n → get_or (map g (map h (range_with_len s n))) i d ≡ g (h (s + i))
ranged_at g h s zero i d lt = absurd (omega arith)
ranged_at g h s (suc n) zero d lt = let e : s ≡ s + 0 = omega arith in ap (λ k. g (h k)) e
ranged_at g h s (suc n) (suc i) d lt =
    let e : s + 1 + i ≡ s + suc i = omega arith in
    ranged_at g h (s + 1) n i d (omega arith) ∙ ap (λ k. g (h k)) e

framed_at : (p : Packet) (h : ℕ → List ℕ) (s n i : ℕ) → i < n → frame_at (map (with_frame p) (map h (range_with_len s n))) i ≡ h (s + i)
framed_at p h s zero i lt = absurd (omega arith)
framed_at p h s (suc n) zero lt = let e : s ≡ s + 0 = omega arith in ap h e
framed_at p h s (suc n) (suc i) lt = let e : s + 1 + i ≡ s + suc i = omega arith in framed_at p h (s + 1) n i (omega arith) ∙ ap h e

mergeable_from : (xs : List Packet) (first : List ℕ) (l : Layout) → ((d : Packet) → (get_or xs 0 d).frame ≡ first) → IsMergeableAs l first xs → IsMergeable xs
mergeable_from [] first l is m = absurd (omega (arith, m.several))
mergeable_from (x ∷ xs) first l is m = (l, subst (λ (z : List ℕ). IsMergeableAs l z (x ∷ xs)) (sym (is x)) m)

-- ---- one header

in_range : (f : List ℕ) → InBytes f → (l : Layer) (at : ℕ) → IsLengthRight f l at → IsLengthInRange (length f) l at
in_range f small Ip4 at e = omega (arith, e, small (at + 2), small (at + 2 + 1))
in_range f small Udp at e = omega (arith, e, small (at + 4), small (at + 4 + 1))
in_range f small _ at e = tt

plain_same : (f s : List ℕ) (l : Layer) (at : ℕ) → IsAlikeAt s f l at → AreFlagsSame s f l at → AreFlagsPlain f l at → AreFlagsPlain s l at
plain_same f s Ip4 at alike flags pf = rw (alike_byte s f Ip4 at 6 alike refl) pf
plain_same f s Tcp at alike flags pf = (rw (alike_byte s f Tcp at 12 alike refl) pf.0, rw flags pf.1)
plain_same f s _ at alike flags pf = tt

plain_ack : (f s : List ℕ) (l : Layer) (at : ℕ) → IsAlikeAt s f l at → IsAckAlone s l at → AreFlagsPlain f l at → AreFlagsPlain s l at
plain_ack f s Ip4 at alike ack pf = rw (alike_byte s f Ip4 at 6 alike refl) pf
plain_ack f s Tcp at alike ack pf = (rw (alike_byte s f Tcp at 12 alike refl) pf.0, inl ack)
plain_ack f s _ at alike ack pf = tt

udp_both : (f a b : List ℕ) (l : Layer) (at : ℕ) → AreUdpSumsAlike a f l at → AreUdpSumsAlike b f l at → AreUdpSumsAlike a b l at
udp_both f a b Udp at x y = (λ z. y.1 (x.0 z), λ z. x.1 (y.0 z))
udp_both f a b _ at x y = tt

sequence_on : (f s first : List ℕ) (n k : ℕ) → k ≡ 0 → (l : Layer) (at : ℕ) → IsSequenceBehind f s n l at → IsSequenceBehind f first k l at → IsSequenceBehind first s n l at
sequence_on f s first n k none Tcp at x y = omega (arith, x, y, none)
sequence_on f s first n k none _ at x y = tt

id_rises : (b : Bool) (x y i : ℕ) → b ≡ false → IsIdStep b x y i → x ≡ (y + i) % 2 ^ 16
id_rises true x y i e step = absurd (true≢false e)
id_rises false x y i e step = step

udp_on : (a s f : List ℕ) (l : Layer) (at : ℕ) → AreUdpSumsAlike a s l at → AreUdpSumsAlike s f l at → AreUdpSumsAlike a f l at
udp_on a s f Udp at x y = (λ z. y.0 (x.0 z), λ z. x.1 (y.1 z))
udp_on a s f _ at x y = tt

flags_on : (a s f : List ℕ) (l : Layer) (at : ℕ) → AreFlagsSame a s l at → AreFlagsSame s f l at → AreFlagsSame a f l at
flags_on a s f Tcp at x y = x ∙ y
flags_on a s f _ at x y = tt

sequence_from : (a s f : List ℕ) (k : ℕ) → k ≡ 0 → InBytes f → (l : Layer) (at : ℕ) → AreSequencesSame a s l at → IsSequenceBehind f s k l at → AreSequencesSame a f l at
sequence_from a s f k none small Tcp at x y =
    x ∙ y ∙ omega (arith, none, small (at + 4), small (at + 4 + 1), small (at + 4 + 2), small (at + 4 + 2 + 1))
sequence_from a s f k none small _ at x y = tt

ids_from : (fixed : ℕ → Bool) → ((at : ℕ) → fixed at ≡ false) → (a s f : List ℕ) → InBytes f → (l : Layer) (at : ℕ) → AreIdsSame a s l at → IsIdBehind fixed f s 0 l at → AreIdsSame a f l at
ids_from fixed none a s f small Ip4 at x y =
    x ∙ id_rises (fixed at) (identification s at) (identification f at) 0 (none at) y ∙ omega (arith, small (at + 4), small (at + 4 + 1))
ids_from fixed none a s f small _ at x y = tt

-- without modes no identification stays
none_fixed : (hs : List Header) (at : ℕ) → is_fixed 0 hs at ≡ false
none_fixed [] at = refl
none_fixed (h ∷ hs) at = by h.layer (h.at == at) (none_fixed hs at)
  where
    by : (l : Layer) (b : Bool) → is_fixed 0 hs at ≡ false → fixed_at l b 0 (is_fixed (modes_behind l 0) hs at) ≡ false
    by Ip4 true e = refl
    by Ip4 false e = e
    by _ b e = e

-- ---- a packet that is cut

module _ (mss : ℕ) (p : Packet) (l : Layout) (small : InBytes p.frame) (c : IsCuttable l (merged_in (cut_head mss p.frame) p)) where
  abbrev f : List ℕ
  f = p.frame

  abbrev n : ℕ
  n = (cut_head mss p.frame).n

  abbrev hs : List Header
  hs = l.headers

  abbrev fixed : ℕ → Bool
  fixed = is_fixed 0 l.headers

  abbrev payload : List ℕ
  payload = drop l.payload_at p.frame

  abbrev own : ℕ → List ℕ
  own i = take mss (drop (i * mss) (drop l.payload_at p.frame))

  abbrev seg : ℕ → List ℕ
  seg i = segment_frame l fixed mss (i + 1 == n) f i

  abbrev ps : List Packet
  ps = map (with_frame p) (map seg (range_with_len 0 n))

  lies : AreLaid 0 l.headers l.payload_at × (l.payload_at ≤ length p.frame)
  lies = laid f l c.shape_is

  starts : (i : ℕ) → i < n → i * mss < length f - l.payload_at
  starts i lt = omega (arith, c.above, times_le i (n - 1) mss (omega (arith, lt)))

  sizes : (i : ℕ) → length (own i) ≡ min mss (length f - l.payload_at - i * mss)
  sizes i = omega (arith, length-take mss (drop (i * mss) payload), length-drop (i * mss) payload, length-drop l.payload_at f)

  some : (i : ℕ) → i < n → 1 ≤ length (own i)
  some i lt = omega (arith, sizes i, starts i lt, c.full)

  whole : (i : ℕ) → i + 1 < n → length (own i) ≡ mss
  whole i lt =
      let e : (i + 1) * mss ≡ i * mss + mss = omega arith in
      omega (arith, sizes i, starts (i + 1) lt, e)

  most : (i : ℕ) → length (own i) ≤ mss
  most i = omega (arith, sizes i)

  ranges : AtHeaders (IsLengthInRange (length f)) hs
  ranges = headers_map (in_range f small) hs c.candidate.lengths

  is : (i : ℕ) → i < n → IsSegment l fixed n mss f i (seg i)
  is i lt =
      segment_is l fixed n mss (i + 1 == n) f i lies.0 lies.1 small
      (headers_map (range_less (l.payload_at + length (own i)) (length f) (omega (arith, sizes i, lies.1))) hs ranges)
      (λ e. eqb-true (i + 1) n e) (λ e. other (cases_eq (i + 1) n) e)
    where
      other : (i + 1 ≡ n) ⊎ (i + 1 ≢ n) → (i + 1 == n) ≡ false → i + 1 < n
      other (inl q) e = absurd (true≢false (sym (eq-eqb (i + 1) n q) ∙ e))
      other (inr q) e = omega (arith, lt, q)

  alike : (i : ℕ) → i < n → AreHeadersAlike l (seg i) f
  alike i lt = (is i lt).like.headers

  shape : (i : ℕ) → i < n → shape_of (seg i) ≡ Some l
  shape i lt = same_shape f (seg i) l c.shape_is (λ k a o. sym (alike i lt k a o)) (omega (arith, (is i lt).like.long))

  plain : (i : ℕ) → i < n → AtHeaders (AreFlagsPlain (seg i)) hs
  plain i lt = by (cases_eq (i + 1) n)
    where
      by : (i + 1 ≡ n) ⊎ (i + 1 ≢ n) → AtHeaders (AreFlagsPlain (seg i)) hs
      by (inl e) = headers_map3 (plain_same f (seg i)) hs (alike_at l (seg i) f lies.0 (alike i lt)) ((is i lt).last_flags e) c.candidate.flags
      by (inr q) = headers_map3 (plain_ack f (seg i)) hs (alike_at l (seg i) f lies.0 (alike i lt)) ((is i lt).flags (omega (arith, lt, q))) c.candidate.flags

  candidate : (i : ℕ) → i < n → IsCandidate (seg i) (length (seg i)) l
  candidate i lt = record {
    whole = refl;
    lengths = (is i lt).like.lengths;
    flags = plain i lt;
    sums = (is i lt).like.sums;
    payload = omega (arith, (is i lt).like.long, some i lt);
  }

  -- ---- the packets

  count : length ps ≡ n
  count = ranged_length (with_frame p) seg 0 n

  at_ps : (i : ℕ) (d : Packet) → i < n → get_or ps i d ≡ with_frame p (seg i)
  at_ps i d lt = let e : 0 + i ≡ i = omega arith in ranged_at (with_frame p) seg 0 n i d lt ∙ ap (λ k. with_frame p (seg k)) e

  each : (P : ℕ → Packet → Type 0) → ((i : ℕ) → i < n → P i (with_frame p (seg i))) → Each P ps
  each P h = record { at = λ i d lt. let less : i < n = omega (arith, lt, count) in subst (P i) (sym (at_ps i d less)) (h i less) }

  each_inner : (P : ℕ → Packet → Type 0) → ((i : ℕ) → i + 1 < n → P i (with_frame p (seg i))) → EachButLast P ps
  each_inner P h = record { at = λ i d lt. let less : i + 1 < n = omega (arith, lt, count) in subst (P i) (sym (at_ps i d (omega (arith, less)))) (h i less) }

  first : 0 < n
  first = omega (arith, c.several)

  first_long : length (seg 0) - l.payload_at ≡ mss
  first_long = omega (arith, (is 0 first).like.long, whole 0 (omega (arith, c.several)))

  ids_at : (y : Layer) (at : ℕ) → ((i : ℕ) → i < n → IsIdBehind fixed f (seg i) i y at) → AreIdsInStep (seg 0) ps y at
  ids_at Ip4 at h =
      let zero_is = id_rises (fixed at) (identification (seg 0) at) (identification f at) 0 (none_fixed hs at) (h 0 first) in
      inl (each (λ i q. identification q.frame at ≡ (identification (seg 0) at + i) % 2 ^ 16) (λ i lt.
      omega (arith, id_rises (fixed at) (identification (seg i) at) (identification f at) i (none_fixed hs at) (h i lt), zero_is)))
  ids_at _ at h = tt

  ids_all : (xs : List Header) → ((i : ℕ) → i < n → AtHeaders (IsIdBehind fixed f (seg i) i) xs) → AtHeaders (AreIdsInStep (seg 0) ps) xs
  ids_all [] h = tt
  ids_all (x ∷ xs) h = (ids_at x.layer x.at (λ i lt. (h i lt).0), ids_all xs (λ i lt. (h i lt).1))

  pieces : (s k : ℕ) → s + k ≤ n → payloads_of l (map (with_frame p) (map seg (range_with_len s k))) ≡ take (k * mss) (drop (s * mss) payload)
  pieces s zero le = let e : zero * mss ≡ 0 = omega arith in sym (ap (λ z. take z (drop (s * mss) payload)) e)
  pieces s (suc k) le =
      let e : suc k * mss ≡ mss + k * mss = omega arith in
      let b : (s + 1) * mss ≡ s * mss + mss = omega arith in
      ap (λ z. z ++ payloads_of l (map (with_frame p) (map seg (range_with_len (s + 1) k)))) (is s (omega (arith, le))).like.payload
      ∙ ap (λ z. own s ++ z) (pieces (s + 1) k (omega (arith, le)) ∙ ap (λ z. take (k * mss) (drop z payload)) b ∙ ap (take (k * mss)) (sym (drop-drop mss (s * mss) payload)))
      ∙ sym (ap (λ z. take z (drop (s * mss) payload)) e ∙ take-add mss (k * mss) (drop (s * mss) payload))

  joined : payloads_of l ps ≡ payload
  joined =
      let e : 0 * mss ≡ 0 = omega arith in
      pieces 0 n (omega arith) ∙ ap (λ z. take (n * mss) (drop z payload)) e ∙ take_all (n * mss) payload (omega (arith, c.within, length-drop l.payload_at f))

  all_long : l.payload_at + length (payloads_of l ps) ≡ length f
  all_long = omega (arith, ap length joined, length-drop l.payload_at f, lies.1)

  merges : length f ≤ most_frame → IsMergeableAs l (seg 0) ps
  merges short = record {
    several = omega (arith, count, c.several);
    line = record {
      shapes = each (λ i q. shape_of q.frame ≡ Some l) shape;
      candidates = each (λ i q. IsCandidate q.frame q.original l) candidate;
      headers = each (λ i q. AreHeadersAlike l q.frame (seg 0)) (λ i lt k a o. alike i lt k a o ∙ sym (alike 0 first k a o));
      udp_sums = each (λ i q. AtHeaders (AreUdpSumsAlike q.frame (seg 0)) hs)
          (λ i lt. headers_map2 (udp_both f (seg i) (seg 0)) hs (is i lt).like.udp_sums (is 0 first).like.udp_sums);
      full = each_inner (λ i q. length q.frame ≡ length (seg 0))
          (λ i lt. omega (arith, (is i (omega (arith, lt))).like.long, (is 0 first).like.long, whole i lt, whole 0 (omega (arith, c.several))));
      shorter = each (λ i q. length q.frame ≤ length (seg 0))
          (λ i lt. omega (arith, (is i lt).like.long, (is 0 first).like.long, most i, whole 0 (omega (arith, c.several))));
      flags = each_inner (λ i q. AtHeaders (IsAckAlone q.frame) hs) (λ i lt. (is i (omega (arith, lt))).flags lt);
      sequence = each (λ i q. AtHeaders (IsSequenceBehind (seg 0) q.frame (i * (length (seg 0) - l.payload_at))) hs)
          (λ i lt. subst (λ z. AtHeaders (IsSequenceBehind (seg 0) (seg i) (i * z)) hs) (sym first_long)
          (headers_map2 (sequence_on f (seg i) (seg 0) (i * mss) (0 * mss) (omega arith)) hs (is i lt).sequence (is 0 first).sequence));
      ids = ids_all hs (λ i lt. (is i lt).ids);
      fits = subst (λ z. AtHeaders (IsLengthInRange z) hs) (sym all_long) ranges;
      short = omega (arith, all_long, short);
    };
  }

  pub mergeable : length f ≤ most_frame → IsMergeable ps
  mergeable short = mergeable_from ps (seg 0) l (λ d. ap (λ (q : Packet). q.frame) (at_ps 0 d first)) (merges short)

  -- ---- the merged frame

  abbrev merged : List ℕ
  merged = merged_frame l (seg 0) (seg (n - 1)) (payloads_of l ps)

  is_merged : IsMergedFrame l (seg 0) (seg (n - 1)) (payloads_of l ps) merged
  is_merged =
      merged_is l (seg 0) (seg (n - 1)) (payloads_of l ps) lies.0 (omega (arith, (is 0 first).like.long))
      (is 0 first).like.in_bytes (is (n - 1) (omega (arith, first))).like.in_bytes
      (subst InBytes (sym joined) (λ k. subst (λ z. z < 256) (sym (get_or-drop l.payload_at f k 0)) (small (l.payload_at + k))))
      (subst (λ z. AtHeaders (IsLengthInRange z) hs) (sym all_long) ranges)

  at_last : n - 1 + 1 ≡ n
  at_last = omega (arith, first)

  is_frame : merged ≡ f
  is_frame =
      let g = is_merged in
      let a = is 0 first in
      determined l merged f g.like.in_bytes small lies.0 (g.like.long ∙ all_long) (g.like.payload ∙ joined)
      (λ k b o. g.like.headers k b o ∙ alike 0 first k b o)
      (headers_map2 (udp_on merged (seg 0) f) hs g.like.udp_sums a.like.udp_sums)
      g.like.lengths c.candidate.lengths g.like.sums c.candidate.sums
      (headers_map2 (flags_on merged (seg (n - 1)) f) hs g.flags ((is (n - 1) (omega (arith, first))).last_flags at_last))
      (headers_map2 (sequence_from merged (seg 0) f (0 * mss) (omega arith) small) hs g.sequence a.sequence)
      (headers_map2 (ids_from fixed (none_fixed hs) merged (seg 0) f small) hs g.ids a.ids)

  frame_is : (i : ℕ) → i < n → frame_at ps i ≡ seg i
  frame_is i lt = let e : 0 + i ≡ i = omega arith in framed_at p seg 0 n i lt ∙ ap seg e

  pub comes_back : frame_of_run l ps ≡ f
  comes_back =
      ap (λ z. merged_frame l z (frame_at ps (length ps - 1)) (payloads_of l ps)) (frame_is 0 first)
      ∙ ap (λ z. merged_frame l (seg 0) (frame_at ps (z - 1)) (payloads_of l ps)) count
      ∙ ap (λ z. merged_frame l (seg 0) z (payloads_of l ps)) (frame_is (n - 1) (omega (arith, first)))
      ∙ is_frame

-- ---- by the test

abbrev segs_by : ℕ → Packet → Layout → List Packet
segs_by mss p x = map (with_frame p) (map (λ i. segment_frame x (is_fixed 0 x.headers) mss (i + 1 == (cut_head mss p.frame).n) p.frame i) (range_with_len 0 (cut_head mss p.frame).n))

lawful : (mss : ℕ) (p : Packet) → is_cut mss p ≡ true → IsLawfulSuper (cut_head mss p.frame) p
lawful mss p cut = (decides_super (cut_head mss p.frame) p).0 (and_parts _ _ (and_parts _ _ cut).1).1

layout_is : (f : List ℕ) (l : Layout) → shape_of f ≡ Some l → layout_of f ≡ l
layout_is f l e = ap (λ (o : Option Layout). unwrap_or o (record { headers = []; payload_at = 0 })) e

cut_is : (mss : ℕ) (p : Packet) (l : Layout) → is_cut mss p ≡ true → shape_of p.frame ≡ Some l → cut_of mss p ≡ segs_by mss p l
cut_is mss p l cut e = ap (λ b. if b then segments_by (cut_head mss p.frame) p else p ∷ []) cut ∙ ap (segs_by mss p) (layout_is p.frame l e)

pub cut_is_mergeable : CutIsMergeable
cut_is_mergeable mss p captured cut =
    let s = lawful mss p cut in
    subst IsMergeable (sym (cut_is mss p s.layout cut s.cuttable.shape_is)) (mergeable mss p s.layout captured.in_bytes s.cuttable captured.short)

pub payload_stays : PayloadStays
payload_stays mss p captured cut =
    let s = lawful mss p cut in
    let l = s.layout in
    let same = layout_is p.frame l s.cuttable.shape_is in
    ap (payloads_of (layout_of p.frame)) (cut_is mss p l cut s.cuttable.shape_is) ∙ ap (λ (x : Layout). payloads_of x (segs_by mss p l)) same
    ∙ joined mss p l captured.in_bytes s.cuttable ∙ ap (λ (x : Layout). drop x.payload_at p.frame) (sym same)

pub cut_comes_back : CutComesBack
cut_comes_back mss p captured cut =
    let s = lawful mss p cut in
    let l = s.layout in
    let same = layout_is p.frame l s.cuttable.shape_is in
    ap (frame_of_run (layout_of p.frame)) (cut_is mss p l cut s.cuttable.shape_is) ∙ ap (λ (x : Layout). frame_of_run x (segs_by mss p l)) same
    ∙ comes_back mss p l captured.in_bytes s.cuttable
