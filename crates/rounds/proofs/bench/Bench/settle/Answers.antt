use Rattle.std.proofs.Common.{◌-◌, List, subst}
use Rattle.std.specs.Prelude.{MatchResult}
use Rattle.gro.specs.declared.slot.Slot.{Slot}
use Rattle.rounds.specs.Prepared.{IsWorkDone, IsWorkLeft}
use Rattle.rounds.specs.Out.{IsOut}
use Rattle.block_pool.specs.PoolState.{home}
use Rattle.rounds.proofs.bench.Bench.settle.Goals as goal

pub invariant_of-result : goal.invariant_of-result
invariant_of-result c =
    let k = c.args.prepared in
    let l = c.args.lanes in
    let d = subst (λ z. MatchResult z (λ _. IsWorkDone k l) (λ _. IsWorkLeft k l)) c.in-Ok.is c.requires.lanes in
    (d.out.0, subst (λ (z : List Slot). IsOut k.shared (k.blocks - home k.spares) z l k.clones.items) d.all d.out.1, d.small)
