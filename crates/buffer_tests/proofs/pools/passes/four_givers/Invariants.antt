use Rattle.std.proofs.Common.{◌+◌, ◌≤◌, All}
use Rattle.block_pool.specs.PassState.{IsOwn}
use Rattle.buffer_tests.proofs.pools.passes.four_givers.Given as goal

abbrev pub invariant-loop-turn : goal.invariant-loop-turn
invariant-loop-turn g l = IsOwn l.pool l.pass × (5 ≤ l.pass.parts + l.turn) × All (λ giver. IsOwn l.pool giver.pass) l.givers.items
