use Rattle.std.proofs.Common.{length}
use Rattle.std.specs.Prelude.{reverse}
use Rattle.gro.specs.Slots.{AreHeld}
use Rattle.lanes.specs.Filling.{SharesOut}
use Rattle.lanes.specs.Work.{spread_of}
use Rattle.lanes.proofs.share.spread_back.Given as goal

abbrev pub invariant-loop-last : goal.invariant-loop-last
invariant-loop-last l = record {
  shares : SharesOut (spread_of l.plan) (reverse l.fn.packets.items) (reverse l.packets.items) l.fn.lanes l.lanes;
  held : AreHeld (reverse l.packets.items);
}

abbrev pub decreases-loop-last : goal.decreases-loop-last
decreases-loop-last l = length l.packets.items
