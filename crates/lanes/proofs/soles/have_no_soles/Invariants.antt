use Rattle.std.proofs.Common.{◌≡◌, ◌<◌, ℕ, [], get_or}
use Rattle.lanes.specs.declared.lane.TapLane.{TapLane}
use Rattle.lanes.proofs.soles.have_no_soles.Given as goal

abbrev pub invariant-loop-tap : goal.invariant-loop-tap
invariant-loop-tap l = (k : ℕ) (d : TapLane) → k < l.tap-index → (get_or l.taps k d).outcomes.soles ≡ []
