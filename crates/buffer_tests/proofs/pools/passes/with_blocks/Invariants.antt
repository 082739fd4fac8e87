use Rattle.std.proofs.Common.{◌≡◌}
use Rattle.block_pool.specs.PassState.{IsOwn}
use Rattle.buffer_tests.proofs.pools.passes.with_blocks.Given as goal

abbrev pub invariant-loop : goal.invariant-loop
invariant-loop g l = IsOwn l.pool l.pass × (l.pass.parts ≡ l.initial.pass.parts)
