use Rattle.std.proofs.Common.{◌≡◌, [], length}
use Rattle.merge_tests.proofs.merging.rounds.serve.Given as goal

abbrev pub invariant-loop-item : goal.invariant-loop-item
invariant-loop-item g l = l.table.runs ≡ []

abbrev pub decreases-loop-item : goal.decreases-loop-item
decreases-loop-item g l = length l.items.items
