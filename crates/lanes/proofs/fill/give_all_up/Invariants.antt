use Rattle.std.proofs.Common.{◌≡◌, ◌<◌, ℕ, [], length, get_or}
use Rattle.std.specs.Prelude.{All}
use Rattle.frags.specs.Account.{Keeps, KeepsBlocks}
use Rattle.lanes.specs.declared.lane.TapLane.{TapLane}
use Rattle.lanes.specs.Lanes.{of_taps, IsIdleTap, IsTapReady}
use Rattle.lanes.proofs.fill.give_all_up.Given as goal

abbrev pub invariant-loop-i : goal.invariant-loop-i
invariant-loop-i l = record {
  ready : All IsTapReady l.lanes;
  kept : Keeps (of_taps l.fn.lanes) (of_taps l.lanes);
  blocks : KeepsBlocks (of_taps l.fn.lanes) (of_taps l.lanes);
  none : (k : ℕ) (d : TapLane) → k < l.i → k < length l.lanes → (get_or l.lanes k d).clones.items ≡ [];
  idle : All IsIdleTap l.fn.lanes → All IsIdleTap l.lanes;
  size : length l.lanes ≡ length l.fn.lanes;
}
