use Rattle.std.proofs.Common.{◌≡◌, ◌+◌, ◌≤◌, ◌++◌, drop, length, map}
use Rattle.std.specs.Prelude.{vec_len, vec_capacity}
use Rattle.frags.specs.Account.{Keeps, KeepsBlocks, both}
use Rattle.gro.specs.Slots.{packet_of, of_packets, counts_of, WeighAtLeast}
use Rattle.taps.specs.Clones.{packet_of as packet_of_clone, blocks_of, of_clones}
use Rattle.lanes.specs.Clones.{weight_after, AreAfter}
use Rattle.lanes.proofs.clones.clone_all.Given as goal

abbrev pub invariant-loop-i : goal.invariant-loop-i
invariant-loop-i l = record {
  after : AreAfter (l.before + 1) l.fn.packets.items l.packets.items;
  weigh : WeighAtLeast (weight_after l.before) (drop l.i l.packets.items);
  kept : Keeps (of_packets l.fn.packets.items) (both (of_packets l.packets.items) (of_clones l.clones.items));
  blocks : KeepsBlocks (of_packets l.fn.packets.items) (both (of_packets l.packets.items) (of_clones l.clones.items));
  fewer : blocks_of l.clones.items + counts_of (drop l.i l.packets.items) ≤ counts_of l.fn.packets.items;
  texts : map packet_of_clone l.clones.items ++ map packet_of (drop l.i l.packets.items) ≡ map packet_of l.fn.packets.items;
  size : length l.packets.items ≡ length l.fn.packets.items;
  count : vec_len l.clones ≡ l.i;
  room : vec_capacity l.clones ≡ vec_capacity l.fn.clones;
}
