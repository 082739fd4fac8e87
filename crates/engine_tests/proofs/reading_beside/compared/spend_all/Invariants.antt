use Rattle.std.proofs.Common.{length}
use Rattle.engine_tests.proofs.reading_beside.compared.spend_all.Given as goal

abbrev pub decreases-loop-clone : goal.decreases-loop-clone
decreases-loop-clone g l = length l.kept.items
