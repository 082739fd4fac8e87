use Rattle.std.proofs.Common.{length}
use Rattle.merge_tests.proofs.merging.rounds.flows_in_turn.Given as goal

abbrev pub decreases-loop-item : goal.decreases-loop-item
decreases-loop-item g l = length l.items.items
