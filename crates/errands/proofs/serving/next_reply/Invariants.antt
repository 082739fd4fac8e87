use Rattle.std.proofs.Common.{◌≡◌}
use Rattle.errands.proofs.serving.next_reply.Given as goal

abbrev pub invariant-loop : goal.invariant-loop
invariant-loop g l = l.runner ≡ l.fn.runner
