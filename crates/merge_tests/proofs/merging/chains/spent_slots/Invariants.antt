use Rattle.std.proofs.Common.{length}
use Rattle.merge_tests.proofs.merging.chains.spent_slots.Given as goal

abbrev pub decreases-loop-slot : goal.decreases-loop-slot
decreases-loop-slot g l = length l.slots.items
