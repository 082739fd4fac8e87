use Rattle.std.proofs.Common.{◌≡◌, length}
use Rattle.offload_examples.proofs.steps.cutting.time_clones.Given as goal

abbrev pub invariant-loop : goal.invariant-loop
invariant-loop l = length l.skb.rest ≡ length l.fn.skb.rest
