use Rattle.std.proofs.Common.{◌≡◌, ◌<◌, ℕ, [], get_or}
use Rattle.lanes.specs.declared.lane.TapLane.{TapLane}
use Rattle.lanes.proofs.soles.take_sole.Given as goal

-- the first i taps have none
abbrev pub invariant-loop-i : goal.invariant-loop-i
invariant-loop-i l = record {
  none : (k : ℕ) (d : TapLane) → k < l.i → (get_or l.fn.taps k d).outcomes.soles ≡ [];
  same : l.taps ≡ l.fn.taps;
}
