use Rattle.std.proofs.Common.{length}
use Rattle.engine_tests.proofs.rounds_in_turn.writing.in_place.free_all.Given as goal

abbrev pub decreases-items : goal.decreases-items
decreases-items l = length l.items.items
