use Rattle.std.proofs.Common.{◌-◌, ◌≤◌}
use Rattle.offload_examples.proofs.steps.cutting.buffer_of.Given as goal

abbrev pub invariant-loop-from : goal.invariant-loop-from
invariant-loop-from l = l.from ≤ 65495

abbrev pub decreases-loop-from : goal.decreases-loop-from
decreases-loop-from l = l.size - l.from
