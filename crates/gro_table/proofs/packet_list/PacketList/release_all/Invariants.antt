use Rattle.std.proofs.Common.{◌+◌, ◌-◌, ◌≤◌, length}
use Rattle.frags.specs.Account.{Keeps, both, of_outcomes}
use Rattle.frags.specs.Growth.{Grows}
use Rattle.gro_table.specs.Held.{of_packets, counts_of}
use Rattle.gro_table.specs.Lists.{held_of, ArePaired}
use Rattle.gro_table.proofs.packet_list.PacketList.release_all.Given as goal

abbrev pub invariant-loop-packet : goal.invariant-loop-packet
invariant-loop-packet l = record {
  paired : ArePaired l.self;
  fewer : counts_of (held_of l.self) ≤ counts_of (held_of l.fn.self);
  grows : Grows (counts_of (held_of l.fn.self) - counts_of (held_of l.self)) l.fn.out l.out;
  places : l.fn.out.spare + counts_of (held_of l.self) ≤ l.out.spare + counts_of (held_of l.fn.self);
  kept : Keeps (both (of_packets (held_of l.fn.self)) (of_outcomes l.fn.out)) (both (of_packets (held_of l.self)) (of_outcomes l.out));
}

abbrev pub decreases-loop-packet : goal.decreases-loop-packet
decreases-loop-packet l = length l.self.slots.items
