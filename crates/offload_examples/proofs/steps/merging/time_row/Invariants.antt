use Rattle.std.proofs.Common.{◌≡◌, length}
use Rattle.offload_examples.proofs.steps.merging.time_row.Given as goal

abbrev pub invariant-loop : goal.invariant-loop
invariant-loop l = length l.rounds.stock ≡ l.rounds.blocks
