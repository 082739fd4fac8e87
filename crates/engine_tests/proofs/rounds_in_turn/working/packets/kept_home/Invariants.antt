use Rattle.std.proofs.Common.{length}
use Rattle.engine_tests.proofs.rounds_in_turn.working.packets.kept_home.Given as goal

abbrev pub decreases-loop-clone : goal.decreases-loop-clone
decreases-loop-clone g l = length l.kept.items
