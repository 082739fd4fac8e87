use Rattle.std.proofs.Common.{◌≤◌}
use Rattle.block_pool.specs.PoolState.{home}
use Rattle.offload_examples.proofs.steps.pools.time_plain.Given as goal

abbrev pub invariant-loop-turn : goal.invariant-loop-turn
invariant-loop-turn g l = home l.pool ≤ l.pool.made
