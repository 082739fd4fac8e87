use Rattle.block_pool.specs.PassState.{IsOwn}
use Rattle.buffer_tests.proofs.pools.passes.read_all.Given as goal

abbrev pub invariant-loop : goal.invariant-loop
invariant-loop g l = IsOwn l.pool l.pass
