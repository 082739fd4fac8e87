use Rattle.block_pool.specs.PassState.{IsOwn, IsSame}
use Rattle.buffer_tests.proofs.pools.passes.mark_each.Given as goal

abbrev pub invariant-loop-mark : goal.invariant-loop-mark
invariant-loop-mark g l = IsOwn l.pool l.pass × IsSame l.initial.pass l.pass
