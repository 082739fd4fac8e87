use Rattle.std.proofs.Common.{ap, arith}
use Rattle.block_pool.specs.PoolState.{weighed}
use Rattle.block_supply.proofs.Listing.{ones}
use Rattle.engine_tests.proofs.rounds_in_turn.sides.read_beside.Goals as goal

pub returns-clause-sum : goal.returns-clause-sum
returns-clause-sum g c =
    let r = c.read_beside-read in
    let left = r.new.more.pool.blocks in
    omega (
      arith,
      r.ensures.named (λ _. 1),
      c.blocks-2.ensures.weighs,
      r.new.more.weighs (λ _. 1),
      ones left,
      ones c.args.pool.blocks,
      ap (weighed (λ _. 1)) c.requires.stock,
      ones c.args.intake.now.stock,
      ones r.new.self.stock,
    )
