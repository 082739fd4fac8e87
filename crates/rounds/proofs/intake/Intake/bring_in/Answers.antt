use Rattle.std.proofs.Common.{◌+◌, ◌≤◌, length, sym, ap, ◌∙◌, subst}
use Rattle.raw_block.specs.Views.{SoleState}
use Rattle.block_pool.specs.PoolState.{home, weighed}
use Rattle.rounds.specs.RoundsState.{IntakeState}
use Rattle.rounds.proofs.Counting.{weighed_moved}
use Rattle.rounds.proofs.intake.Intake.bring_in.Goals as goal

pub returns-clause-named : goal.returns-clause-named
returns-clause-named c = λ h.
    let f = c.refill in
    let room = subst (λ (i : IntakeState). length i.stock + home c.args.list ≤ i.blocks) (sym c.self.view_is) c.requires.room in
    weighed_moved h f.new.self f.new.from c.self.inside.pool c.args.list f.ensures.sum f.ensures.all room (f.ensures.blocks (λ (s : SoleState). h s.block))
    ∙ ap (λ (i : IntakeState). weighed h i.stock + weighed h c.args.list.blocks) c.self.view_is
