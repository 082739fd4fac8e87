use Rattle.std.proofs.Common.{arith}
use Rattle.gro.proofs.slot.SlotFrame.sum_from.Goals as goal

pub sum_from-requires : goal.sum_from-requires
sum_from-requires c = record { inside = omega (arith, c.requires.held.front, c.requires.held.size, c.requires.low, c.requires.inside) }
