use Rattle.std.proofs.Common.{◌≤◌}
use Rattle.gso.specs.Places.{IsPlace, steps_left}
use Rattle.gso.proofs.Places.{IsSummedTo}
use Rattle.gso.proofs.place.sum_at.Given as goal

abbrev pub invariant-loop-left : goal.invariant-loop-left
invariant-loop-left l = record {
  place : IsPlace l.skb l.place;
  within : l.left ≤ l.place.left;
  summed : IsSummedTo l.skb l.fn.from l.n l.left l.place l.sum;
}

abbrev pub decreases-loop-left : goal.decreases-loop-left
decreases-loop-left l = steps_left l.skb l.place
