use Rattle.std.proofs.Common.{◌≡◌, ◌<◌, ℕ, length, map, get_or}
use Rattle.std.specs.Prelude.{All}
use Rattle.gro.specs.Slots.{packet_of}
use Rattle.lanes.specs.declared.lane.TapLane.{TapLane}
use Rattle.lanes.specs.Lanes.{IsIdleTap}
use Rattle.lanes.specs.Work.{shown_by, IsWatched}
use Rattle.lanes.proofs.read.read_taps.Given as goal

abbrev pub invariant-loop-i : goal.invariant-loop-i
invariant-loop-i g l = record {
  idle : All IsIdleTap l.lanes;
  read : (k : ℕ) (d : TapLane) → k < l.i → k < length l.lanes → IsWatched l.plan.snap (shown_by l.plan (map packet_of l.packets.items)) k (get_or l.lanes k d);
  size : length l.lanes ≡ length l.fn.lanes;
}
