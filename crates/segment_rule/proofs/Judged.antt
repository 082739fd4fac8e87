-- Which records are lawful, and what packets a lawful one stands for.
use Rattle.std.proofs.Common.{◌≡◌, ℕ, ◌+◌, ◌-◌, ◌*◌, ◌<◌, ◌≤◌, Bool, true, false, Some, List, [], length, map, refl, sym, ap, ◌∙◌, subst}
use Rattle.std.specs.Prelude.{◌==◌, ◌&&◌, nat_lt, nat_le}
use Rattle.std.specs.List.{range_with_len}
use Rattle.std.specs.Option.{unwrap_or}
use Rattle.std.proofs.lemmas.Bool.{and_parts, eqb-true, leb-true, ltb-true}
use Rattle.std.proofs.lemmas.Simd.{map-map}
use Rattle.frame_layout.specs.Shape.{Layout, shape_of}
use Rattle.frame_layout.specs.Segment.{IsSeg, IsSegOf}
use Rattle.frame_layout.specs.declared.segment.Seg.{Seg}
use Rattle.frame_layout.proofs.Lemmas.{laid}
use Rattle.pcap_io.specs.Capture.{Packet, packet}
use Rattle.pcap_io.specs.declared.off_head.OffHead2.{OffHead2}
use Rattle.offload_model.specs.Frames.{segment_frame}
use Rattle.offload_model.specs.Merged.{layout_of, is_fixed}
use Rattle.offload_model.specs.Segments.{with_frame, merged_in, segments_by, IsCuttable, IsLawfulSuper}
use Rattle.offload_model.specs.Tests.{is_lawful_super, is_lawful_single, is_lawful_window, is_lawful_by}
use Rattle.offload_model.proofs.Decides.{decides_super}
use Rattle.segment_rule.specs.declared.segmentation.Segmentation.{Segmentation}
use Rattle.segment_rule.specs.Segmentations.{HasNumbersOf, IsSegmentationOf, segment_at, segments_at, is_merged_head, is_filled}
use Rattle.segment_rule.specs.Modes.{are_bits_lawful}
use Rattle.segment_rule.proofs.ModeBits.{bits_from, bits_to}

-- ---- merged frames

-- n, m and modes suit a candidate
pub cuttable_from : (f : List ℕ) (original : ℕ) (s : Seg) (n m modes : ℕ) → IsSegOf f original (Some s)
    → is_filled n m s.payload_len ≡ true → are_bits_lawful modes f s.layout.headers ≡ true
    → IsCuttable s.layout (record { packet = packet 0 0 0 original f; n = n; m = m; modes = modes })
cuttable_from f original s n m modes seg exact bits =
    let a = and_parts (nat_le 2 n) (nat_le 1 m && (nat_lt ((n - 1) * m) s.payload_len && nat_le s.payload_len (n * m))) exact in
    let b = and_parts (nat_le 1 m) (nat_lt ((n - 1) * m) s.payload_len && nat_le s.payload_len (n * m)) a.1 in
    let c = and_parts (nat_lt ((n - 1) * m) s.payload_len) (nat_le s.payload_len (n * m)) b.1 in
    let q = bits_from modes f 0 s.layout.headers s.layout.payload_at (laid f s.layout seg.1.shape).0 bits in
    record {
      shape_is = seg.1.shape;
      candidate = seg.0;
      several = leb-true 2 n a.0;
      full = leb-true 1 m b.0;
      above = subst (λ p. (n - 1) * m < p) seg.1.payload_len (ltb-true ((n - 1) * m) s.payload_len c.0);
      within = subst (λ p. p ≤ n * m) seg.1.payload_len (leb-true s.payload_len (n * m) c.1);
      modes = q.0;
      only = q.1;
    }

pub same_layout : (f : List ℕ) (s : Seg) (layout : Layout) → IsSeg f s → shape_of f ≡ Some layout → layout ≡ s.layout
same_layout f s layout seg e = let both : Some layout ≡ Some s.layout = sym e ∙ seg.shape in cc

pub bits_to_seg : (f : List ℕ) (original : ℕ) (s : Seg) (n m modes : ℕ) (layout : Layout) → IsSeg f s
    → IsCuttable layout (record { packet = packet 0 0 0 original f; n = n; m = m; modes = modes })
    → are_bits_lawful modes f s.layout.headers ≡ true
bits_to_seg f original s n m modes layout seg c =
    subst (λ (l : Layout). are_bits_lawful modes f l.headers ≡ true) (same_layout f s layout seg c.shape_is)
    (bits_to modes f 0 layout.headers layout.payload_at (laid f layout c.shape_is).0 c.modes c.only)

pub super_from : (head : OffHead2) (f : List ℕ) (original : ℕ) (s : Seg) → is_merged_head head ≡ true → IsSegOf f original (Some s)
    → is_filled head.n head.m s.payload_len ≡ true → are_bits_lawful head.modes f s.layout.headers ≡ true
    → IsLawfulSuper head (packet 0 0 0 original f)
super_from head f original s e seg exact bits =
    let b : (head.kind == 1 ≡ true) × (nat_le head.lane 63 ≡ true) = and_parts (head.kind == 1) (nat_le head.lane 63) e in
    record {
      kind = eqb-true head.kind 1 b.0;
      lane = leb-true head.lane 63 b.1;
      layout = s.layout;
      cuttable = cuttable_from f original s head.n head.m head.modes seg exact bits;
    }

abbrev IsCuttableBy : List ℕ → Layout → ℕ → ℕ → ℕ → ℕ → Type 0
IsCuttableBy f layout original n m modes = IsCuttable layout (record { packet = packet 0 0 0 original f; n = n; m = m; modes = modes })

-- a lawful super-packet's cut
pub cut_is : (head : OffHead2) (f : List ℕ) (original : ℕ) (cut : Segmentation) (layout : Layout) → cut.layout ≡ layout → HasNumbersOf head cut
    → IsCuttable layout (merged_in head (packet 0 0 0 original f)) → IsSegmentationOf cut f
cut_is head f original cut layout same has c =
    subst (λ l. IsCuttableBy f l (length f) cut.n cut.m cut.modes) (sym same)
    (subst (λ k. IsCuttableBy f layout (length f) cut.n cut.m k) (sym has.modes)
    (subst (λ m. IsCuttableBy f layout (length f) cut.n m head.modes) (sym has.m)
    (subst (λ n. IsCuttableBy f layout (length f) n head.m head.modes) (sym has.n)
    (subst (λ o. IsCuttableBy f layout o head.n head.m head.modes) c.candidate.whole c))))

-- ---- records

false_where : (b : Bool) → (b ≡ true → ⊥) → b ≡ false
false_where true n = absurd (n refl)
false_where false n = refl

pub lawful_super : (head : OffHead2) (p : Packet) → is_lawful_single head ≡ false → IsLawfulSuper head p → is_lawful_by head p ≡ true
lawful_super head p e s = rw (e, (decides_super head p).1 s) refl

pub lawful_none : (head : OffHead2) (p : Packet) → is_lawful_single head ≡ false → is_lawful_window head ≡ false → (IsLawfulSuper head p → ⊥)
    → is_lawful_by head p ≡ false
lawful_none head p single window super = rw (single, false_where (is_lawful_super head p) (λ e. super ((decides_super head p).0 e)), window) refl

-- ---- packets

abbrev frames_with : Layout → ℕ → ℕ → ℕ → List ℕ → List (List ℕ)
frames_with layout n m modes f = map (λ i. segment_frame layout (is_fixed modes layout.headers) m (i + 1 == n) f i) (range_with_len 0 n)

-- the segments of a merged record are those of its cut
pub segments_are : (head : OffHead2) (p : Packet) (cut : Segmentation) → head.kind ≡ 1 → HasNumbersOf head cut → shape_of p.frame ≡ Some cut.layout
    → segments_by head p ≡ segments_at cut p
segments_are head p cut kind has shape =
    let none : Layout = record { headers = []; payload_at = 0 } in
    let merged : segments_by head p ≡ map (with_frame p) (frames_with (layout_of p.frame) head.n head.m head.modes p.frame) = rw kind refl in
    merged
    ∙ ap (λ l. map (with_frame p) (frames_with l head.n head.m head.modes p.frame)) (ap (λ o. unwrap_or o none) shape)
    ∙ ap (λ n. map (with_frame p) (frames_with cut.layout n head.m head.modes p.frame)) (sym has.n)
    ∙ ap (λ m. map (with_frame p) (frames_with cut.layout cut.n m head.modes p.frame)) (sym has.m)
    ∙ ap (λ k. map (with_frame p) (frames_with cut.layout cut.n cut.m k p.frame)) (sym has.modes)
    ∙ map-map (with_frame p) (segment_at cut p.frame) (range_with_len 0 cut.n)
