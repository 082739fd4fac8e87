use Rattle.std.proofs.Common.{length}
use Rattle.engine_tests.proofs.rounds_in_turn.writing.in_place.settle.Given as goal

abbrev pub decreases-soles : goal.decreases-soles
decreases-soles l = length l.outcomes.soles
