use Rattle.std.proofs.Common.{ℕ, zero, suc, ◌+◌, ◌-◌, ◌*◌, ◌<◌, ◌≤◌, ◌++◌, Some, List, [], length, ap, sym, subst, arith, append-nil, length-take}
use Rattle.net_bytes.specs.Bytes.{byte}
use Rattle.inet_sum.specs.Stands.{FoldAndLength, StandsFor}
use Rattle.frame_layout.specs.Front.{IsFrameOf}
use Rattle.frame_layout.specs.Segment.{IsSegOf}
use Rattle.frame_layout.specs.Headers.{AreLaid}
use Rattle.frame_layout.specs.declared.segment.Seg.{Seg}
use Rattle.frame_layout.proofs.Lemmas.{placed, headers_map}
use Rattle.pcap_io.specs.Capture.{packet}
use Rattle.pcap_io.specs.declared.off_head.OffHead2.{OffHead2}
use Rattle.offload_model.proofs.Fronts.{range_less}
use Rattle.segment_rule.specs.declared.segmentation.Segmentation.{Segmentation}
use Rattle.segment_rule.specs.Segmentations.{IsJudged, IsSegmentationOf}
use Rattle.segment_rule.proofs.Segments.{places, ranges}
use Rattle.merge_tests.proofs.examples.example_of_segment_rule.Goals as goal

-- the frame is all in the first bytes
whole : (f : List ℕ) (none : FoldAndLength) → StandsFor none [] → ((k : ℕ) → byte f k < 256) → IsFrameOf f none f
whole f none sum small = record { tail = []; joined = sym (append-nil f); sum = sum; in_bytes = small }

cut_of : (f : List ℕ) (head : OffHead2) (s : Seg) (cut : Segmentation) (original : ℕ) → IsSegOf f original (Some s)
    → ((n : ℕ) (rest : List ℕ) → IsSegOf (f ++ rest) n (Some s) → IsJudged head (packet 0 0 0 n (f ++ rest)) (Some cut))
    → IsSegmentationOf cut f
cut_of f head s cut original seg judged =
    (subst (λ (z : List ℕ). IsJudged head (packet 0 0 0 original z) (Some cut)) (append-nil f)
    (judged original [] (subst (λ (z : List ℕ). IsSegOf z original (Some s)) (sym (append-nil f)) seg))).1

one_of : (k m : ℕ) → 1 ≤ k → m ≤ k * m
one_of zero m some = absurd (omega arith)
one_of (suc k) m some = omega arith

-- a segment's payload lies in the frame
m_short : (cut : Segmentation) (f : List ℕ) → IsSegmentationOf cut f → cut.layout.payload_at + cut.m ≤ length f
m_short cut f of = omega (arith, of.above, one_of (cut.n - 1) cut.m (omega (arith, of.several)))

pub segmentation_of-requires-clause-there : goal.segmentation_of-requires-clause-there
segmentation_of-requires-clause-there g c =
    let f = c.as_slice-frame.result.now in
    let small : (k : ℕ) → byte f k < 256 = λ k. omega (arith, c.type_inv.frame k) in
    let seg = c.in-Some.ensures.candidate f (whole f c.new.result c.new.ensures.sum small) in
    headers_map (λ l at t. t.0) c.in-Some.seg.layout.headers (placed f small c.in-Some.seg.layout (sym seg.1.shape)).there

pub split_at_mut-header_bytes-requires : goal.split_at_mut-header_bytes-requires
split_at_mut-header_bytes-requires g c =
    let f = c.as_slice-frame.result.now in
    let small : (k : ℕ) → byte f k < 256 = λ k. omega (arith, c.type_inv.frame k) in
    let seg = c.in-Some.ensures.candidate f (whole f c.new.result c.new.ensures.sum small) in
    let cut = c.in-Some-segmentation_of.cut in
    let of : IsSegmentationOf cut f = cut_of f _ c.in-Some.seg cut _ seg c.in-Some-segmentation_of.ensures.judged in
    omega (arith, m_short cut f of, c.payload_at.ensures.place, ap length c.as_slice-frame.ensures)

pub slice_bounds-add-end : goal.slice_bounds-add-end
slice_bounds-add-end g c =
    let f = c.as_slice-frame.result.now in
    let small : (k : ℕ) → byte f k < 256 = λ k. omega (arith, c.type_inv.frame k) in
    let seg = c.in-Some.ensures.candidate f (whole f c.new.result c.new.ensures.sum small) in
    let cut = c.in-Some-segmentation_of.cut in
    let of : IsSegmentationOf cut f = cut_of f _ c.in-Some.seg cut _ seg c.in-Some-segmentation_of.ensures.judged in
    omega (arith, m_short cut f of, c.payload_at.ensures.place, c.split_at_mut-header_bytes.ensures.back_len, ap length c.as_slice-frame.ensures)

pub slice_bounds-add-end-2 : goal.slice_bounds-add-end-2
slice_bounds-add-end-2 g c =
    let f = c.as_slice-frame.result.now in
    let small : (k : ℕ) → byte f k < 256 = λ k. omega (arith, c.type_inv.frame k) in
    let seg = c.in-Some.ensures.candidate f (whole f c.new.result c.new.ensures.sum small) in
    let cut = c.in-Some-segmentation_of.cut in
    let of : IsSegmentationOf cut f = cut_of f _ c.in-Some.seg cut _ seg c.in-Some-segmentation_of.ensures.judged in
    omega (
      arith,
      length-take cut.m c.split_at_mut-header_bytes.result.1.now,
      m_short cut f of,
      c.payload_at.ensures.place,
      c.split_at_mut-header_bytes.ensures.back_len,
      ap length c.as_slice-frame.ensures,
    )

pub put_headers-requires-clause-there : goal.put_headers-requires-clause-there
put_headers-requires-clause-there g c =
    let f = c.as_slice-frame.result.now in
    let small : (k : ℕ) → byte f k < 256 = λ k. omega (arith, c.type_inv.frame k) in
    let seg = c.in-Some.ensures.candidate f (whole f c.new.result c.new.ensures.sum small) in
    let cut = c.in-Some-segmentation_of.cut in
    let of : IsSegmentationOf cut f = cut_of f _ c.in-Some.seg cut _ seg c.in-Some-segmentation_of.ensures.judged in
    omega (arith, of.several)

pub put_headers-requires-clause-laid : goal.put_headers-requires-clause-laid
put_headers-requires-clause-laid g c =
    let f = c.as_slice-frame.result.now in
    let small : (k : ℕ) → byte f k < 256 = λ k. omega (arith, c.type_inv.frame k) in
    let seg = c.in-Some.ensures.candidate f (whole f c.new.result c.new.ensures.sum small) in
    let cut = c.in-Some-segmentation_of.cut in
    let of : IsSegmentationOf cut f = cut_of f _ c.in-Some.seg cut _ seg c.in-Some-segmentation_of.ensures.judged in
    subst (AreLaid 0 cut.layout.headers)
    (omega (arith, m_short cut f of, c.payload_at.ensures.place, c.split_at_mut-header_bytes.ensures.front_len, ap length c.as_slice-frame.ensures))
    (places cut f small of).laid

pub put_headers-requires-clause-ranges : goal.put_headers-requires-clause-ranges
put_headers-requires-clause-ranges g c =
    let f = c.as_slice-frame.result.now in
    let small : (k : ℕ) → byte f k < 256 = λ k. omega (arith, c.type_inv.frame k) in
    let seg = c.in-Some.ensures.candidate f (whole f c.new.result c.new.ensures.sum small) in
    let cut = c.in-Some-segmentation_of.cut in
    let of : IsSegmentationOf cut f = cut_of f _ c.in-Some.seg cut _ seg c.in-Some-segmentation_of.ensures.judged in
    headers_map
    (range_less (length c.split_at_mut-header_bytes.result.0.now + c.add.new.self.len) (length f) (omega (
      arith,
      m_short cut f of,
      c.payload_at.ensures.place,
      c.split_at_mut-header_bytes.ensures.front_len,
      c.split_at_mut-header_bytes.ensures.back_len,
      length-take cut.m c.split_at_mut-header_bytes.result.1.now,
      c.new-payload_sum.ensures.len,
      c.add.ensures.len,
      ap length c.as_slice-frame.ensures,
    )))
    cut.layout.headers (ranges cut f small of)
