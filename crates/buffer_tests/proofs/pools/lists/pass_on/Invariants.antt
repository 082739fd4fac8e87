use Rattle.block_pool.specs.PassState.{IsOwn}
use Rattle.buffer_tests.proofs.pools.lists.pass_on.Given as goal

abbrev pub invariant-loop : goal.invariant-loop
invariant-loop g l = IsOwn l.from l.side.from × IsOwn l.to l.side.to
