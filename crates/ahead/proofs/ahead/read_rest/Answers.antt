use Rattle.std.proofs.Common.{Some, ap, refl, subst, sym, ◌∙◌}
use Rattle.off_io.specs.Told.{Told}
use Rattle.pcap_io.specs.declared.place.Place.{Place}
use Rattle.rounds.specs.Filling.{reached, Fills, Reached, Stands}
use Rattle.rounds.specs.RoundsState.{RoundState, RoundsState}
use Rattle.rounds.specs.declared.round_stages.Halt.TheVariants.{Ended}
use Rattle.rounds.specs.declared.round_stages.RoundEnd.TheVariants.{NoMemory}
use Rattle.rounds.proofs.Pausing.{fills_ended}
use Rattle.ahead.specs.Ahead.{GivesBehind}
use Rattle.ahead.proofs.Beside.{behind_faults, behind_full, behind_given, behind_numbers, behind_unread, number_as, stands_as, stands_kept}
use Rattle.ahead.proofs.ahead.read_rest.Given.{Over}
use Rattle.ahead.proofs.ahead.read_rest.Goals.{After-end-end}
use Rattle.ahead.proofs.ahead.read_rest.Goals as goal

-- what the rest of the round comes to, of wherever it began
fills : (g : Over) (c : After-end-end g) (start : Reached) (from : Place)
    → Stands start from (reached g.S.Source.left g.S.Source.faults c.args.reader.now) (Some c.args.paused.head) c.args.paused.round.packets
    → Fills c.args.rounds.now.blocks c.args.rounds.now.budget start from (reached g.S.Source.left g.S.Source.faults c.read-halt.new.reader) c.read-halt.new.round.head c.into_round-round-2.result.packets
    (Ended c.end-end.result)
fills g c start from stands =
    let r = c.read-halt in
    let room = c.make_room-2.ensures.same in
    let was = c.reading-reading.ensures in
    let here = reached g.S.Source.left g.S.Source.faults c.args.reader.now in
    fills_ended start from (reached g.S.Source.left g.S.Source.faults r.new.reader) r.new.round.round.packets c.into_round-round-2.result.packets r.result c.end-end.result
    (ap (λ (s : RoundsState). s.blocks) c.rounds.view_is) (sym c.rounds.invariant.budget ∙ ap (λ (s : RoundsState). s.budget) c.rounds.view_is) c.end-end.ensures.end
    (ap (λ (x : RoundState). x.packets) c.into_round-round-2.ensures.same)
    (r.ensures.fills start from
    (stands_as start from here c.args.paused.head c.make_room-2.new.round.head c.args.paused.round.packets c.make_room-2.new.round.round.packets (room.2 ∙ was.head)
    (room.0 ∙ ap (λ (x : RoundState). x.packets) was.round.0) stands))

pub read-halt-requires-clause-stands : goal.read-halt-requires-clause-stands
read-halt-requires-clause-stands g c =
    let p = c.args.paused in
    let kept = c.requires.kept in
    let room = c.make_room-2.ensures.same in
    let was = c.reading-reading.ensures in
    let here = reached g.S.Source.left g.S.Source.faults c.args.reader.now in
    let begun = stands_kept here.place here.left here.faults p.head p.round.packets kept.0 kept.1.0 kept.1.1 in (
      begun.0,
      (
        begun.1.0,
        stands_as begun.0 begun.1.0 here p.head c.make_room-2.new.round.head p.round.packets c.make_room-2.new.round.round.packets (room.2 ∙ was.head)
            (room.0 ∙ ap (λ (x : RoundState). x.packets) was.round.0) begun.1.1,
      ),
    )

pub returns-clause-given : goal.returns-clause-given
returns-clause-given g c = λ at keeps.
    let p = c.args.paused in
    let r = c.read-halt in
    let here = reached g.S.Source.left g.S.Source.faults c.args.reader.now in
    let to = reached g.S.Source.left g.S.Source.faults r.new.reader in
    let kept = c.requires.kept in
    behind_given here.left to.left c.args.rounds.now.blocks c.args.rounds.now.budget here.faults here.place to p.head r.new.round.head p.round.packets c.into_round-round-2.result.packets c.end-end.result at keeps
    (number_as kept.0 at here.place p.head p.round.packets kept.1.0 keeps kept.1.1) refl r.ensures.tells (fills g (goal.at.returns-clause-given g c).After-end-end)

pub returns-clause-full : goal.returns-clause-full
returns-clause-full g c = λ full at keeps.
    let p = c.args.paused in
    let kept = c.requires.kept in
    behind_full c.args.reader.now.place (reached g.S.Source.left g.S.Source.faults c.read-halt.new.reader) p.head p.round.packets c.into_round-round-2.result.packets c.end-end.result at kept.0 keeps kept.1.0 kept.1.1
    (fills g (goal.at.returns-clause-full g c).After-end-end) full

pub returns-clause-numbers : goal.returns-clause-numbers
returns-clause-numbers g c = λ at keeps.
    let p = c.args.paused in
    behind_numbers c.args.reader.now.place (reached g.S.Source.left g.S.Source.faults c.read-halt.new.reader) p.head p.round.packets c.into_round-round-2.result.packets c.end-end.result at keeps
    (fills g (goal.at.returns-clause-numbers g c).After-end-end)

pub returns-clause-later : goal.returns-clause-later
returns-clause-later g c =
    let p = c.args.paused in
    let here = reached g.S.Source.left g.S.Source.faults c.args.reader.now in
    let kept = c.requires.kept in
    (behind_faults here.faults here.place (reached g.S.Source.left g.S.Source.faults c.read-halt.new.reader) p.head p.round.packets c.into_round-round-2.result.packets c.end-end.result kept.0 kept.1.0 kept.1.1
    (fills g (goal.at.returns-clause-later g c).After-end-end)).0

pub returns-clause-failed : goal.returns-clause-failed
returns-clause-failed g c =
    let p = c.args.paused in
    let here = reached g.S.Source.left g.S.Source.faults c.args.reader.now in
    let kept = c.requires.kept in
    (behind_faults here.faults here.place (reached g.S.Source.left g.S.Source.faults c.read-halt.new.reader) p.head p.round.packets c.into_round-round-2.result.packets c.end-end.result kept.0 kept.1.0 kept.1.1
    (fills g (goal.at.returns-clause-failed g c).After-end-end)).1

pub returns-then-is_err-clause-given : goal.returns-then-is_err-clause-given
returns-then-is_err-clause-given g c = λ at keeps.
    let p = c.args.paused in
    let a = g.S.Source.left c.args.reader.now.source.now in
    let place = c.args.reader.now.place in
    let blocks = c.args.rounds.now.blocks in
    subst (λ xs. Told a a (GivesBehind blocks at place p.head p.round.packets xs NoMemory)) (sym (ap (λ (x : RoundState). x.packets) c.into_round-round.ensures.same ∙ ap (λ (x : RoundState). x.packets) c.reading-reading.ensures.round.0)) (behind_unread a at place blocks p.head p.round.packets)

pub returns-then-is_err-2-clause-given : goal.returns-then-is_err-2-clause-given
returns-then-is_err-2-clause-given g c = λ at keeps.
    let p = c.args.paused in
    let a = g.S.Source.left c.args.reader.now.source.now in
    let place = c.args.reader.now.place in
    let blocks = c.args.rounds.now.blocks in
    subst (λ xs. Told a a (GivesBehind blocks at place p.head p.round.packets xs NoMemory)) (sym (ap (λ (x : RoundState). x.packets) c.into_round-round-then-is_err-2.ensures.same ∙ c.make_room-2.ensures.same.0 ∙ ap (λ (x : RoundState). x.packets) c.reading-reading.ensures.round.0)) (behind_unread a at place blocks p.head p.round.packets)
