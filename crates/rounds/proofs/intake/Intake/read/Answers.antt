use Rattle.std.proofs.Common.{sym, subst, arith}
use Rattle.rounds.specs.Filling.{reached, Fills, Stands}
use Rattle.rounds.specs.RoundsState.{IntakeState, ReadingState}
use Rattle.rounds.proofs.intake.Intake.read.Goals as goal

pub invariant_of-round : goal.invariant_of-round
invariant_of-round g c =
    let r = c.read_more-used.ensures in
    let from = c.requires.stands.1.0 in
    let here = reached g.S.Source.left g.S.Source.faults c.args.reader.now in
    let begun = subst (λ (x : ReadingState). Stands c.requires.stands.0 from here x.head x.round.packets) (sym c.round.view_is) c.requires.stands.1.1 in (
      r.round,
      (from.number, (r.fills c.requires.stands.0 from begun).numbers),
      omega (arith, c.round.invariant.2, r.room.0),
      omega (arith, c.round.invariant.3, r.room.1),
    )

pub returns-clause-fills : goal.returns-clause-fills
returns-clause-fills g c = λ start from stands.
    let r = c.read_more-used in
    let here = reached g.S.Source.left g.S.Source.faults c.args.reader.now in
    let begun = subst (λ (x : ReadingState). Stands start from here x.head x.round.packets) (sym c.round.view_is) stands in
    subst (λ (i : IntakeState). Fills i.blocks i.budget start from (reached g.S.Source.left g.S.Source.faults r.new.reader) r.new.head r.new.packets.items r.result.1) c.self.view_is
    (r.ensures.fills start from begun)
