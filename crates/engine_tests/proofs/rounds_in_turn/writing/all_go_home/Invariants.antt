use Rattle.std.proofs.Common.{length}
use Rattle.engine_tests.proofs.rounds_in_turn.writing.all_go_home.Given as goal

abbrev pub decreases-items : goal.decreases-items
decreases-items g l = length l.items.items
