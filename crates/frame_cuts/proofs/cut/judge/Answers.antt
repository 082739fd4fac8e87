use Rattle.std.proofs.Common.{ℕ, ◌+◌, ◌-◌, ◌/◌, List, length, Some, subst}
use Rattle.std.specs.Prelude.{IfNone, IfSome}
use Rattle.frame_layout.specs.Segment.{IsSegOf}
use Rattle.pcap_io.specs.declared.off_head.OffHead2.{OffHead2}
use Rattle.offload_model.specs.Segments.{IsLawfulSuper}
use Rattle.segment_rule.specs.Segmentations.{IsJudged, IsSegmentationOf}
use Rattle.frame_cuts.specs.Cuts.{cut_head, whole}
use Rattle.frame_cuts.proofs.Judging.{all_known, headers_in, judged_whole, refused_all, lawful_all, of_all, numbers_all}
use Rattle.frame_cuts.proofs.cut.judge.Goals.{After-cut_head, After-segmentation_of}
use Rattle.frame_cuts.proofs.cut.judge.Goals as goal

segment : (c : After-cut_head)
    → IsSegOf c.in_bytes-front.result.now (length c.in_bytes-front.result.now) (Some c.in_ok-seg.seg)
segment c =
    let front : List ℕ = c.in_bytes-front.result.now in
    c.in_ok-seg.ensures.candidate front (all_known front c.new.result c.new.ensures.sum c.in_bytes-front.ensures.in_bytes)

pub segmentation_of-requires-clause-there : goal.segmentation_of-requires-clause-there
segmentation_of-requires-clause-there c =
    headers_in c.in_bytes-front.result.now c.in_ok-seg.seg.layout
    (segment (goal.at.segmentation_of-requires-clause-there c).After-cut_head).1.shape

-- how it was judged, of whichever frame is asked
module _ (c : After-segmentation_of) where
  abbrev front : List ℕ
  front = c.in_bytes-front.result.now

  known : IsSegOf front (length front) (Some c.in_ok-seg.seg)
  known = c.in_ok-seg.ensures.candidate front
      (all_known front c.new.result c.new.ensures.sum c.in_bytes-front.ensures.in_bytes)

  judged : IsJudged (cut_head ((c.in_ok-seg.seg.payload_len + (c.args.m - 1)) / c.args.m) c.args.m c.args.modes)
      (whole front) c.segmentation_of.result
  judged = subst (λ (z : OffHead2). IsJudged z (whole front) c.segmentation_of.result) c.cut_head.ensures.head
      (judged_whole c.cut_head.result front c.in_ok-seg.seg c.segmentation_of.result known c.segmentation_of.ensures.judged)

  refused : IfNone c.segmentation_of.result
      ((n : ℕ) → IsLawfulSuper (cut_head n c.args.m c.args.modes) (whole front) → ⊥)
  refused = refused_all front c.in_ok-seg.seg c.args.m c.args.modes known c.segmentation_of.result judged

  lawful : IfSome c.segmentation_of.result
      (λ cut. IsLawfulSuper (cut_head cut.n c.args.m c.args.modes) (whole front))
  lawful = lawful_all front c.in_ok-seg.seg c.args.m c.args.modes known c.segmentation_of.result judged

  of : IfSome c.segmentation_of.result (λ cut. IsSegmentationOf cut front)
  of = of_all front c.in_ok-seg.seg c.args.m c.args.modes known c.segmentation_of.result judged

pub returns-clause-refused : goal.returns-clause-refused
returns-clause-refused c =
    subst (λ (z : List ℕ). IfNone c.segmentation_of.result
    ((n : ℕ) → IsLawfulSuper (cut_head n c.args.m c.args.modes) (whole z) → ⊥)) c.in_bytes-front.ensures.same
    (refused (goal.at.returns-clause-refused c).After-segmentation_of)

pub returns-clause-lawful : goal.returns-clause-lawful
returns-clause-lawful c =
    subst (λ (z : List ℕ). IfSome c.segmentation_of.result
    (λ cut. IsLawfulSuper (cut_head cut.n c.args.m c.args.modes) (whole z))) c.in_bytes-front.ensures.same
    (lawful (goal.at.returns-clause-lawful c).After-segmentation_of)

pub returns-clause-of : goal.returns-clause-of
returns-clause-of c =
    subst (λ (z : List ℕ). IfSome c.segmentation_of.result (λ cut. IsSegmentationOf cut z)) c.in_bytes-front.ensures.same
    (of (goal.at.returns-clause-of c).After-segmentation_of)

pub returns-clause-numbers : goal.returns-clause-numbers
returns-clause-numbers c =
    let p = (goal.at.returns-clause-numbers c).After-segmentation_of in
    numbers_all c.in_bytes-front.result.now c.in_ok-seg.seg c.args.m c.args.modes (known p) c.segmentation_of.result (judged p)
