use Rattle.std.proofs.Common.{◌≡◌, ◌+◌, ◌-◌, ◌^◌, ◌≤◌, length, min}
use Rattle.gro.specs.Slots.{counts_of, AreAlone}
use Rattle.gro.proofs.packets.Packets.free.Given as goal

abbrev pub decreases-loop-slot : goal.decreases-loop-slot
decreases-loop-slot l = length l.slots.items

-- what was freed and what is left to be freed are all that there was
abbrev pub invariant-loop-slot : goal.invariant-loop-slot
invariant-loop-slot l = record {
  few : l.freed + counts_of l.slots.items ≤ counts_of l.fn.self.items;
  fits : l.freed ≤ 2 ^ 64 - 1;
  alone : AreAlone l.fn.self.items → AreAlone l.slots.items;
  all : AreAlone l.fn.self.items
      → min (l.freed + counts_of l.slots.items) (2 ^ 64 - 1) ≡ min (counts_of l.fn.self.items) (2 ^ 64 - 1);
}
