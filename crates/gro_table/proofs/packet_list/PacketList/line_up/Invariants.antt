use Rattle.std.proofs.Common.{◌≡◌, ◌+◌, ◌≤◌, ◌++◌, length}
use Rattle.std.specs.VecDeque.{deque_len, deque_capacity}
use Rattle.gro_table.specs.Lists.{ArePaired}
use Rattle.gro_table.specs.Waiting.{lined_up}
use Rattle.gro_table.proofs.packet_list.PacketList.line_up.Given as goal

-- those that are still in the list come before those that wait
abbrev pub invariant-loop-packet : goal.invariant-loop-packet
invariant-loop-packet l = record {
  paired : ArePaired l.self;
  all : lined_up l.self ++ l.waiting.items ≡ lined_up l.fn.self;
  room : deque_len l.waiting + length l.self.slots.items ≤ deque_capacity l.waiting;
}

abbrev pub decreases-loop-packet : goal.decreases-loop-packet
decreases-loop-packet l = length l.self.slots.items
