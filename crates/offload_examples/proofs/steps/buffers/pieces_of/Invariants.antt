use Rattle.std.proofs.Common.{◌+◌, ◌≤◌, length}
use Rattle.block_pool.specs.PoolState.{home}
use Rattle.offload_examples.proofs.steps.buffers.pieces_of.Given as goal

abbrev pub invariant-loop-block : goal.invariant-loop-block
invariant-loop-block l = length l.rest + home l.pool ≤ home l.fn.pool

abbrev pub decreases-loop-block : goal.decreases-loop-block
decreases-loop-block l = home l.pool
