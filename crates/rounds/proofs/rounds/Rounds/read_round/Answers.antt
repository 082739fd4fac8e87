use Rattle.std.proofs.Common.{◌∙◌, ap, arith, sym}
use Rattle.rounds.specs.Filling.{reached}
use Rattle.rounds.specs.Reads.{reader_at}
use Rattle.rounds.specs.RoundsState.{RoundsState}
use Rattle.rounds.proofs.Ending.{read_ended, read_none}
use Rattle.rounds.proofs.Pausing.{stands_begun}
use Rattle.rounds.proofs.rounds.Rounds.read_round.Goals as goal

pub read-halt-requires-clause-stands : goal.read-halt-requires-clause-stands
read-halt-requires-clause-stands g c =
    let here = reached g.S.Source.left g.S.Source.faults c.args.reader.now in
    (here, (here.place, stands_begun _ here c.in-Ok.round c.requires.ready c.in-Ok.ensures.begun))

pub returns-in-Err-clause-read : goal.returns-in-Err-clause-read
returns-in-Err-clause-read g c =
    let n = c.read_none in
    read_none c.args.self.now.blocks c.args.self.now.budget (reader_at g.S.Source.left g.S.Source.faults c.args.reader.now c.args.self.now.taken) _ n.result n.ensures.none.0 n.ensures.none.2 n.ensures.end
    (omega (arith, n.ensures.budget.0, c.self.invariant.budget, ap (λ (s : RoundsState). s.budget) c.self.view_is)) (omega (arith, ap (λ (s : RoundsState). s.taken) c.self.view_is))

pub returns-clause-read : goal.returns-clause-read
returns-clause-read g c =
    let r = c.read-halt in
    let e = r.ensures in
    let here = reached g.S.Source.left g.S.Source.faults c.args.reader.now in
    let begun = stands_begun _ here c.in-Ok.round c.requires.ready c.in-Ok.ensures.begun in
    read_ended (reader_at g.S.Source.left g.S.Source.faults c.args.reader.now c.args.self.now.taken) (reader_at g.S.Source.left g.S.Source.faults r.new.reader r.new.self.taken) r.new.round.round
    (record { round = c.into_round-round.result; end = c.end-end.result }) r.result (ap (λ (s : RoundsState). s.blocks) c.self.view_is)
    (sym c.self.invariant.budget ∙ ap (λ (s : RoundsState). s.budget) c.self.view_is) c.end-end.ensures.end c.into_round-round.ensures.same (e.fills here here.place begun) e.grows.size e.grows.fewer
    e.captured e.need e.grows.takes.within e.budget.0 (omega (arith, e.grows.takes.taken, c.in-Ok.ensures.begun.empty, ap (λ (s : RoundsState). s.taken) c.self.view_is))
