use Rattle.std.proofs.Common.{◌-◌}
use Rattle.skb.proofs.Filling.{Filled}
use Rattle.skb.proofs.skb.Skb.copy_blocks.Given as goal

abbrev pub invariant-loop-at : goal.invariant-loop-at
invariant-loop-at l = Filled l.self l.from l.fn.spares.items l.at l.copied.room l.spares.items l.copied.pieces

abbrev pub decreases-loop-at : goal.decreases-loop-at
decreases-loop-at l = l.len - l.at
