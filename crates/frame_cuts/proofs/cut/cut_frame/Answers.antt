use Rattle.std.proofs.Common.{refl, arith}
use Rattle.segment_rule.specs.Segmentations.{segment_at}
use Rattle.frame_cuts.proofs.Telling.{cuts, told_more}
use Rattle.frame_cuts.proofs.cut.cut_frame.Goals as goal

pub loop-i-preserved : goal.loop-i-preserved
loop-i-preserved c =
    told_more (segment_at c.in-Some.cut c.args.frame.now) c.args.frame.now c.loop-i.segments c.loop-i.i
    c.put_segment.new.segment (omega (arith, c.loop-i-test.true, c.if-segments-n.false, c.loop-i.auto.segments))
    c.loop-i.invariant c.put_segment.ensures.segment

pub returns-clause-cut : goal.returns-clause-cut
returns-clause-cut c =
    let e = c.in-Some.ensures in
    cuts c.args.m c.args.modes c.args.frame.now c.in-Some.cut c.loop-i.segments c.in-Some.cut.n refl
    (omega (arith, c.if-segments-n.false, c.loop-i.auto.segments)) e.lawful e.of e.numbers
    (λ k o h. c.loop-i.invariant k o (omega (arith, h, c.loop-i-test.false)))
