use Rattle.std.proofs.Common.{◌+◌, ◌≤◌, length}
use Rattle.offload_examples.proofs.steps.buffers.push_often.Given as goal

abbrev pub invariant-loop : goal.invariant-loop
invariant-loop l = length l.skb.rest + 1 ≤ l.out.spare
