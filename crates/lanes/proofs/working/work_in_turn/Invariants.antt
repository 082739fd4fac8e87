use Rattle.lanes.specs.Lanes.{DidQueue}
use Rattle.lanes.proofs.Listing.{DidUpTo}
use Rattle.lanes.proofs.working.work_in_turn.Given as goal

abbrev pub invariant-loop-i : goal.invariant-loop-i
invariant-loop-i g l = DidUpTo (DidQueue l.plan.segs) l.i l.fn.queues l.queues
