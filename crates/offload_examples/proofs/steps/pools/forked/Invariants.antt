use Rattle.std.proofs.Common.{◌+◌, ◌≤◌, All}
use Rattle.block_pool.specs.PassState.{IsOwn}
use Rattle.offload_examples.proofs.steps.pools.forked.Given as goal

abbrev pub invariant-loop-turn : goal.invariant-loop-turn
invariant-loop-turn l = IsOwn l.pool l.pass × (5 ≤ l.pass.parts + l.turn) × All (IsOwn l.pool) l.passes.items
