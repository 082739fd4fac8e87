use Rattle.std.proofs.Common.{◌+◌, sym, subst, arith, lt_of_lt_of_le}
use Rattle.block_pool.proofs.Giving.{may_give_nothing, may_give_twice}
use Rattle.lanes.specs.Lanes.{DidQueue, IsFilled}
use Rattle.lanes.proofs.Listing.{did_none, did_more}
use Rattle.lanes.proofs.working.work_and_give.Goals as goal

pub loop-at-init : goal.loop-at-init
loop-at-init g c = record {
  did = did_none (DidQueue c.args.plan.now.segs) c.args.queues.now;
  gave = may_give_nothing c.args.giver.now;
}

pub work_giving-requires : goal.work_giving-requires
work_giving-requires g c =
    let d = c.index-queues-at.result in
    record { filled = subst IsFilled (sym (c.loop-at.invariant.did.back c.loop-at.at d (omega arith))) (c.requires.filled c.loop-at.at d c.loop-at-test.true) }

pub loop-at-preserved : goal.loop-at-preserved
loop-at-preserved g c =
    let i = c.loop-at.invariant in
    record {
      did = did_more (DidQueue c.args.plan.now.segs) c.loop-at.at (c.loop-at.at + 1) c.args.queues.now c.loop-at.queues c.index-queues-at.result c.work_giving.new.lane
          (omega arith) c.loop-at-test.true c.work_giving.ensures.did i.did;
      gave = may_give_twice c.args.giver.now c.loop-at.giver c.work_giving.new.giver i.gave c.work_giving.ensures.gave;
    }

pub returns-clause-did : goal.returns-clause-did
returns-clause-did g c = λ i d lt. c.loop-at.invariant.did.front i d (lt_of_lt_of_le lt c.loop-at-test.false) lt
