use Rattle.std.proofs.Common.{◌+◌, ◌≤◌}
use Rattle.taps.specs.Clones.{blocks_of}
use Rattle.offload_examples.proofs.steps.windows.task_over.Given as goal

abbrev pub invariant-loop-turn : goal.invariant-loop-turn
invariant-loop-turn l = record {
  blocks : blocks_of l.task.clones.items ≤ l.turn;
  places : 128 ≤ l.task.outcomes.spare + l.turn;
}
