use Rattle.std.proofs.Common.{◌+◌, ◌*◌, ◌≤◌, length}
use Rattle.gso_cutter.specs.Cutting.{count_of}
use Rattle.merge_tests.proofs.examples.example_of_gso_cutter.Given as goal

-- room for what the cutter holds, and for what each spare comes to
abbrev pub invariant-loop-spare : goal.invariant-loop-spare
invariant-loop-spare g l = count_of l.cutter + 3 * length l.spares.items ≤ l.outcomes.spare

abbrev pub decreases-loop-spare : goal.decreases-loop-spare
decreases-loop-spare g l = length l.spares.items
