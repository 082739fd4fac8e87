use Rattle.std.proofs.Common.{◌≡◌, ◌≤◌, length}
use Rattle.std.specs.Prelude.{All, vec_capacity}
use Rattle.lanes.specs.Lanes.{IsIdleTap}
use Rattle.lanes.proofs.fill.fit_taps.Given as goal

abbrev pub invariant-loop-tap : goal.invariant-loop-tap
invariant-loop-tap l = record {
  idle : All IsIdleTap l.fitting.items;
  size : length l.fitting.items ≡ l.tap;
  room : l.taps ≤ vec_capacity l.fitting;
}
