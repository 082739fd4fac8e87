use Rattle.block_pool.specs.PassState.{IsOwn}
use Rattle.offload_examples.proofs.steps.pools.filling_turns_of.Given as goal

abbrev pub invariant-loop-turn : goal.invariant-loop-turn
invariant-loop-turn g l = IsOwn l.pool l.pass
