use Rattle.std.proofs.Common.{◌+◌, ◌≤◌, map}
use Rattle.std.specs.Prelude.{reverse}
use Rattle.gro.specs.Slots.{packet_of, counts_of, AreAlone, AreHeld, WeighAtLeast}
use Rattle.lanes.specs.Clones.{weight_after}
use Rattle.lanes.specs.Packets.{RiseFrom}
use Rattle.engine_tests.proofs.rounds_in_turn.working.packets.unshared.Given as goal

abbrev pub invariant-loop-number : goal.invariant-loop-number
invariant-loop-number g l = record {
  held : AreHeld (reverse l.packets.items);
  alone : AreAlone (reverse l.packets.items);
  weighs : WeighAtLeast (weight_after 1) (reverse l.packets.items);
  rising : RiseFrom l.number (map packet_of (reverse l.packets.items));
  few : counts_of (reverse l.packets.items) + l.number ≤ 8;
  most : l.number ≤ 8;
  room : l.number ≤ l.packets.room;
}

abbrev pub decreases-loop-number : goal.decreases-loop-number
decreases-loop-number g l = l.number
