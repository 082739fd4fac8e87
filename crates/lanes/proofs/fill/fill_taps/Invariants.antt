use Rattle.std.proofs.Common.{◌≡◌, ◌+◌, ◌<◌, ◌≤◌, ℕ, length, map, get_or}
use Rattle.std.specs.Prelude.{true, All}
use Rattle.frags.specs.Account.{Keeps, KeepsBlocks, both}
use Rattle.gro.specs.Slots.{packet_of, of_packets}
use Rattle.lanes.specs.declared.lane.TapLane.{TapLane}
use Rattle.lanes.specs.Clones.{AreAfter}
use Rattle.lanes.specs.Lanes.{of_taps, IsIdleTap, IsTapReady}
use Rattle.lanes.specs.Work.{MayWatch}
use Rattle.lanes.proofs.fill.fill_taps.Given as goal

abbrev pub invariant-loop-i : goal.invariant-loop-i
invariant-loop-i g l = record {
  after : AreAfter (l.i + 1) l.fn.packets.items l.packets.items;
  kept : Keeps (of_packets l.fn.packets.items) (both (of_packets l.packets.items) (of_taps l.lanes));
  blocks : KeepsBlocks (of_packets l.fn.packets.items) (both (of_packets l.packets.items) (of_taps l.lanes));
  ready : All IsTapReady l.lanes;
  served : (k : ℕ) (d : TapLane) → k < l.i → k < length l.lanes → MayWatch true l.plan (map packet_of l.fn.packets.items) k (get_or l.lanes k d);
  idle : (k : ℕ) (d : TapLane) → l.i ≤ k → k < length l.lanes → IsIdleTap (get_or l.lanes k d);
  size : length l.lanes ≡ length l.fn.lanes;
}
