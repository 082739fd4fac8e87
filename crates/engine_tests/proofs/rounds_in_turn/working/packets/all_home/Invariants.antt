use Rattle.std.proofs.Common.{length}
use Rattle.engine_tests.proofs.rounds_in_turn.working.packets.all_home.Given as goal

abbrev pub decreases-loop-lane : goal.decreases-loop-lane
decreases-loop-lane g l = length l.queues.items

abbrev pub decreases-loop-lane-2 : goal.decreases-loop-lane-2
decreases-loop-lane-2 g l = length l.taps.items
