use Rattle.std.proofs.Common.{◌≡◌, ◌∙◌, [], ap, sym, subst}
use Rattle.block_pool.specs.PoolState.{home}
use Rattle.block_pool.specs.declared.giver.Giver.{Giver}
use Rattle.crossing.proofs.way.open_way.Goals as goal

pub invariant_of-result : goal.invariant_of-result
invariant_of-result c =
    let giver : c.with_bell-giver.result ≡ c.in_ok-taker.giver = c.with_bell-giver.ensures.same ∙ c.giver.view_is in
    record {
      same = ap (λ (z : Giver). z.pool) giver ∙ c.in_ok-taker.ensures.same;
      untaken = (c.in_ok-taker.ensures.none.0, c.in_ok-taker.ensures.none.1);
      ungiven = subst (λ (z : Giver). (z.pass.parts ≡ 65535) × (z.pass.put ≡ []) × (home z.list ≡ 0)) (sym giver) c.in_ok-taker.ensures.giver;
    }
