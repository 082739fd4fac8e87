use Rattle.std.proofs.Common.{◌≡◌, ◌+◌, ◌*◌, ◌<◌, ℕ, inl, max, subst, arith}
use Rattle.block_pool.specs.PoolState.{home}
use Rattle.lane_crew.proofs.Dividing.{share_is}
use Rattle.lane_crew.proofs.carrying.part_for.Goals as goal

pub returns-in-Ok-clause-even : goal.returns-in-Ok-clause-even
returns-in-Ok-clause-even c =
    let among : c.max.result ≡ max 1 c.args.among = omega (arith, c.max.ensures) in
    let n = home c.in-Ok.part.list in
    inl (subst (λ (l : ℕ). l < (n + 1) * max 1 c.args.among) c.lying-lying.ensures.value
    (subst (λ (d : ℕ). c.lying-lying.result < (n + 1) * d) among
    (share_is c.lying-lying.result c.max.result n (omega (arith, among)) (omega (arith, c.in-Ok.ensures.count, c.min-n.ensures)))))
