use Rattle.std.proofs.Common.{◌∙◌, ap, arith}
use Rattle.block_pool.specs.PassState.{PassState}
use Rattle.block_pool.specs.PoolState.{PoolState, weighed}
use Rattle.block_supply.specs.Lists.{weights_listed}
use Rattle.block_supply.proofs.Listing.{weighed_none, weights_listed_last}
use Rattle.block_supply.proofs.taker.Taker.bring.Goals as goal

pub invariant_of-self-2 : goal.invariant_of-self-2
invariant_of-self-2 g c =
    let old = c.args.self.now in
    let took = c.in-Ok.ensures.taken in
    record {
      own = (ap (λ (p : PassState PoolState). p.pool) took ∙ old.own.0, ap (λ (p : PassState PoolState). p.size) took ∙ old.own.1);
      alone = (
        ap (λ (p : PassState PoolState). p.parts) took ∙ old.alone.0,
        ap (λ (p : PassState PoolState). p.made) took ∙ old.alone.1,
        ap (λ (p : PassState PoolState). p.put) took ∙ old.alone.2,
      );
      weighs = λ h. omega (
        arith,
        ap (λ (p : PassState PoolState). weights_listed h p.taken) took,
        weights_listed_last h old.pass.taken c.in-Ok.list,
        ap (λ (p : PoolState). weighed h p.blocks) c.replace-none.ensures.after,
        ap (λ (p : PoolState). weighed h p.blocks) c.into_pool.ensures.value,
      );
    }

pub returns-clause-named : goal.returns-clause-named
returns-clause-named g c h =
    let old = c.args.self.now in
    omega (
      arith,
      c.put_left-2.ensures.named h,
      old.weighs h,
      weighed_none h old.left.blocks (omega (arith, c.if-home-gt0.false, c.home.ensures.home)),
      ap (λ (p : PassState PoolState). weights_listed h p.taken) c.in-Ok.ensures.taken,
      weights_listed_last h old.pass.taken c.in-Ok.list,
      ap (λ (p : PoolState). weighed h p.blocks) c.replace-none.ensures.after,
      ap (λ (p : PoolState). weighed h p.blocks) c.into_pool.ensures.value,
    )
