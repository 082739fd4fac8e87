use Rattle.lanes.specs.Lanes.{DidTap}
use Rattle.lanes.proofs.Listing.{DidUpTo}
use Rattle.lanes.proofs.working.watch_in_turn.Given as goal

abbrev pub invariant-loop-i : goal.invariant-loop-i
invariant-loop-i g l = DidUpTo (DidTap l.plan.filter l.plan.snap) l.i l.fn.taps l.taps
