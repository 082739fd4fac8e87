use Rattle.block_pool.specs.Giving.{MayGive}
use Rattle.lanes.specs.Lanes.{DidQueue}
use Rattle.lanes.proofs.Listing.{DidUpTo}
use Rattle.lanes.proofs.working.work_and_give.Given as goal

abbrev pub invariant-loop-at : goal.invariant-loop-at
invariant-loop-at g l = record {
  did : DidUpTo (DidQueue l.plan.segs) l.at l.fn.queues l.queues;
  gave : MayGive l.fn.giver l.giver;
}
