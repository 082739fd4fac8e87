use Rattle.std.proofs.Common.{length}
use Rattle.frags.specs.Account.{Keeps, KeepsBlocks}
use Rattle.lanes.specs.Lanes.{of_tap, IsIdleTap, IsTapReady}
use Rattle.lanes.proofs.fill.give_up.Given as goal

abbrev pub invariant-loop-clone : goal.invariant-loop-clone
invariant-loop-clone l = record {
  ready : IsTapReady l.lane;
  kept : Keeps (of_tap l.fn.lane) (of_tap l.lane);
  blocks : KeepsBlocks (of_tap l.fn.lane) (of_tap l.lane);
  idle : IsIdleTap l.fn.lane → IsIdleTap l.lane;
}

abbrev pub decreases-loop-clone : goal.decreases-loop-clone
decreases-loop-clone l = length l.lane.clones.items
