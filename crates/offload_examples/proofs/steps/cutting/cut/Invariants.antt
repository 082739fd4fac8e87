use Rattle.std.proofs.Common.{◌≤◌}
use Rattle.gso_cutter.specs.Cutting.{count_of}
use Rattle.offload_examples.proofs.steps.cutting.cut.Given as goal

abbrev pub invariant-loop : goal.invariant-loop
invariant-loop l = count_of l.cutter ≤ l.out.spare
