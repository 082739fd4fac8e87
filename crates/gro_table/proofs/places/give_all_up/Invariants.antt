use Rattle.std.proofs.Common.{length}
use Rattle.gro_table.specs.Places.{AreEmpty}
use Rattle.gro_table.proofs.places.give_all_up.Given as goal

abbrev pub invariant-loop-places : goal.invariant-loop-places
invariant-loop-places l = AreEmpty l.all.items

abbrev pub decreases-loop-places : goal.decreases-loop-places
decreases-loop-places l = length l.all.items
