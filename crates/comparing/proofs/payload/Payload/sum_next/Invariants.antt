use Rattle.std.proofs.Common.{◌≤◌, length}
use Rattle.comparing.proofs.Passing.{AreSummed}
use Rattle.comparing.proofs.payload.Payload.sum_next.Given as goal

abbrev pub invariant-loop-left : goal.invariant-loop-left
invariant-loop-left l = record {
  within : l.left ≤ length l.self;
  summed : AreSummed l.n l.left l.fn.self l.self l.sum;
}

abbrev pub decreases-loop-left : goal.decreases-loop-left
decreases-loop-left l = l.left
