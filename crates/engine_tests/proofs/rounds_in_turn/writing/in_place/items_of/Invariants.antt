use Rattle.std.proofs.Common.{length}
use Rattle.engine_tests.proofs.rounds_in_turn.writing.in_place.items_of.Given as goal

abbrev pub decreases-loop-slot : goal.decreases-loop-slot
decreases-loop-slot g l = length l.packets.items
