use Rattle.std.proofs.Common.{arith}
use Rattle.raw_block.specs.Views.{SoleState}
use Rattle.block_supply.proofs.Listing.{left_weighs}
use Rattle.block_supply.proofs.taker.Taker.put_left.Goals as goal

pub invariant_of-self-clause-weighs : goal.invariant_of-self-clause-weighs
invariant_of-self-clause-weighs c h =
    let old = c.args.self.now in
    omega (arith, old.weighs h, left_weighs h old.left c.refill.new.from c.args.pool.now c.refill.new.self c.refill.ensures.moved)

pub returns-clause-named : goal.returns-clause-named
returns-clause-named c h =
    let old = c.args.self.now in
    omega (
      arith,
      old.weighs h,
      left_weighs h old.left c.refill.new.from c.args.pool.now c.refill.new.self c.refill.ensures.moved,
      c.refill.ensures.blocks (λ (s : SoleState). h s.block),
    )
