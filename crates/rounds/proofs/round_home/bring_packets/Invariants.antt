use Rattle.std.proofs.Common.{◌+◌, ◌≤◌, length}
use Rattle.gro.specs.Slots.{of_packets, counts_of}
use Rattle.frags.specs.OutcomesState.{IsBare}
use Rattle.rounds.specs.Table.{Comes}
use Rattle.rounds.proofs.round_home.bring_packets.Given as goal

abbrev pub invariant-loop-packet : goal.invariant-loop-packet
invariant-loop-packet l = record {
  comes : Comes (of_packets l.fn.packets.items) (of_packets l.packets.items) l.fn.pool l.fn.places l.pool l.places;
  bare : IsBare l.out;
  room : counts_of l.packets.items ≤ l.out.spare;
  spare : l.fn.out.spare + counts_of l.packets.items ≤ l.out.spare + counts_of l.fn.packets.items;
}

abbrev pub decreases-loop-packet : goal.decreases-loop-packet
decreases-loop-packet l = length l.packets.items
