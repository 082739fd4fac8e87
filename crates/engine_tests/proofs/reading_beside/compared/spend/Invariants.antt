use Rattle.std.proofs.Common.{length}
use Rattle.engine_tests.proofs.reading_beside.compared.spend.Given as goal

abbrev pub decreases-loop-sole : goal.decreases-loop-sole
decreases-loop-sole g l = length l.outcomes.soles
