use Rattle.std.proofs.Common.{arith}
use Rattle.block_supply.proofs.Listing.{left_weighs}
use Rattle.raw_block.specs.Views.{SoleState}
use Rattle.engine_tests.proofs.rounds_in_turn.sides.ShelfSupply.look.Goals as goal

pub invariant_of-self : goal.invariant_of-self
invariant_of-self g c = record {
  weighs = λ h.
      omega (arith, c.args.self.now.weighs h, left_weighs h c.args.self.now.pool c.refill.new.from c.args.pool.now c.refill.new.self c.refill.ensures.moved);
}

pub returns-clause-named : goal.returns-clause-named
returns-clause-named g c h =
    omega (
      arith,
      c.args.self.now.weighs h,
      left_weighs h c.args.self.now.pool c.refill.new.from c.args.pool.now c.refill.new.self c.refill.ensures.moved,
      c.refill.ensures.blocks (λ (s : SoleState). h s.block),
    )
