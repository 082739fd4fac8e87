use Rattle.std.proofs.Common.{ap, arith}
use Rattle.block_pool.specs.PoolState.{weighed}
use Rattle.block_supply.proofs.taker.open_lists.Goals as goal

pub invariant_of-taker-clause-weighs : goal.invariant_of-taker-clause-weighs
invariant_of-taker-clause-weighs c = λ h. omega (arith, ap (weighed h) c.new-2.ensures.none.0)
