use Rattle.std.proofs.Common.{All, vec_len}
use Rattle.block_pool.specs.PassState.{IsOwn}
use Rattle.buffer_tests.proofs.pools.passes.gather_givers.Given as goal

abbrev pub invariant-loop-pass : goal.invariant-loop-pass
invariant-loop-pass g l = IsOwn l.pool l.kept × All (λ giver. IsOwn l.pool giver.pass) l.givers.items

abbrev pub decreases-loop-pass : goal.decreases-loop-pass
decreases-loop-pass g l = vec_len l.givers
