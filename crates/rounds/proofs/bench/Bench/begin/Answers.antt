use Rattle.std.proofs.Common.{◌+◌, ◌≤◌, length, sym, ap, ◌∙◌, subst}
use Rattle.block_pool.specs.PoolState.{home}
use Rattle.gro.specs.Packets.{PacketsState}
use Rattle.rounds.specs.RoundsState.{BenchState}
use Rattle.rounds.proofs.bench.Bench.begin.Goals as goal

pub invariant_of-self-2 : goal.invariant_of-self-2
invariant_of-self-2 c =
    let v = c.self.invariant in
    (v.0, v.1, v.2, ap (λ (p : PacketsState). p.items) c.replace-packets.ensures.after ∙ c.new.ensures.none, v.4, v.5, ap home c.replace-spares.ensures.after ∙ ap length c.new-2.ensures.none.0, v.7)

pub invariant_of-self-in_err-place_spares : goal.invariant_of-self-in_err-place_spares
invariant_of-self-in_err-place_spares c =
    let v = c.self.invariant in
    (v.0, v.1, v.2, c.reserve.ensures.same ∙ v.3, v.4, v.5, c.place_spares.ensures.none, v.7)

pub returns-clause-room : goal.returns-clause-room
returns-clause-room c = subst (λ (b : BenchState). b.blocks + b.blocks ≤ b.room) (sym c.self.view_is) c.in_ok-make_room.ensures.room

pub returns-clause-later : goal.returns-clause-later
returns-clause-later c = subst (λ (b : BenchState). c.args.self.now.room ≤ b.room) (sym c.self.view_is) c.make_room.ensures.later
