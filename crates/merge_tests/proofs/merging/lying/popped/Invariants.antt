use Rattle.std.proofs.Common.{length}
use Rattle.merge_tests.proofs.merging.lying.popped.Given as goal

abbrev pub decreases-loop-slot : goal.decreases-loop-slot
decreases-loop-slot g l = length l.packets.items
