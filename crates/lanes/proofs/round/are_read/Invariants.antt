use Rattle.std.proofs.Common.{◌<◌, ℕ, get_or}
use Rattle.std.specs.Prelude.{IsSome}
use Rattle.lanes.specs.declared.lane.TapLane.{TapLane}
use Rattle.lanes.proofs.round.are_read.Given as goal

abbrev pub invariant-loop-lane : goal.invariant-loop-lane
invariant-loop-lane l = (k : ℕ) (d : TapLane) → k < l.lane-index → IsSome (get_or l.lanes k d).texts
