use Rattle.std.proofs.Common.{◌+◌, sym, subst, arith}
use Rattle.lanes.specs.Lanes.{DidQueue, IsFilled}
use Rattle.lanes.proofs.Listing.{did_none, did_more}
use Rattle.lanes.proofs.working.work_in_turn.Goals as goal

pub loop-i-init : goal.loop-i-init
loop-i-init g c = did_none (DidQueue c.args.plan.now.segs) c.args.queues.now

pub work-requires : goal.work-requires
work-requires g c =
    let d = c.index-queues-i.result in
    record { filled = subst IsFilled (sym (c.loop-i.invariant.back c.loop-i.i d (omega arith))) (c.requires.filled c.loop-i.i d c.loop-i-test.true) }

pub loop-i-preserved : goal.loop-i-preserved
loop-i-preserved g c =
    did_more (DidQueue c.args.plan.now.segs) c.loop-i.i (c.loop-i.i + 1) c.args.queues.now c.loop-i.queues c.index-queues-i.result c.work.new.lane
    (omega arith) c.loop-i-test.true c.work.ensures.did c.loop-i.invariant

pub returns : goal.returns
returns g c = record { did = λ i d lt. c.loop-i.invariant.front i d (omega (arith, lt, c.loop-i-test.false)) lt }
