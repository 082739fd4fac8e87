use Rattle.block_pool.specs.PassState.{IsOwn}
use Rattle.offload_examples.proofs.steps.pools.turns_of.Given as goal

abbrev pub invariant-loop : goal.invariant-loop
invariant-loop g l = IsOwn l.pool l.pass
