use Rattle.std.proofs.Common.{length}
use Rattle.engine_tests.proofs.rounds_in_turn.writing.go_home.Given as goal

abbrev pub decreases-soles : goal.decreases-soles
decreases-soles g l = length l.outcomes.soles
