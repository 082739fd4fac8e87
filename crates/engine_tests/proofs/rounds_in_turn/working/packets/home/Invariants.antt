use Rattle.std.proofs.Common.{length}
use Rattle.engine_tests.proofs.rounds_in_turn.working.packets.home.Given as goal

abbrev pub decreases-loop-sole : goal.decreases-loop-sole
decreases-loop-sole l = length l.outcomes.soles
