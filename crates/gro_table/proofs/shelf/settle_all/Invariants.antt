use Rattle.std.proofs.Common.{length}
use Rattle.gro_table.specs.Places.{AreBare}
use Rattle.gro_table.proofs.shelf.settle_all.Given as goal

abbrev pub invariant-loop-outcomes : goal.invariant-loop-outcomes
invariant-loop-outcomes l = AreBare l.all.items

abbrev pub decreases-loop-outcomes : goal.decreases-loop-outcomes
decreases-loop-outcomes l = length l.all.items
