use Rattle.block_pool.specs.PassState.{IsSame}
use Rattle.buffer_tests.proofs.pools.lists.count_blocks.Given as goal

abbrev pub invariant-loop : goal.invariant-loop
invariant-loop g l = IsSame l.fn.pass l.pass
