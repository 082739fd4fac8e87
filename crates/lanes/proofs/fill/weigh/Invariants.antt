use Rattle.std.proofs.Common.{◌≡◌, ◌+◌, drop}
use Rattle.gro.specs.Slots.{counts_of}
use Rattle.lanes.proofs.fill.weigh.Given as goal

abbrev pub invariant-loop-slot : goal.invariant-loop-slot
invariant-loop-slot l = l.count + counts_of (drop l.slot-index l.packets.items) ≡ counts_of l.packets.items
