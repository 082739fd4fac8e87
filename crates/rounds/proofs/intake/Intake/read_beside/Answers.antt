use Rattle.std.proofs.Common.{◌∙◌, ap, arith, length, refl, sym}
use Rattle.rounds.specs.Filling.{reached}
use Rattle.rounds.specs.Reads.{reader_at}
use Rattle.rounds.specs.declared.round_stages.Halt.TheVariants.{Ended}
use Rattle.rounds.specs.declared.round_stages.RoundEnd.TheVariants.{GivenUp}
use Rattle.rounds.proofs.Ending.{read_ended, read_given_up, read_none}
use Rattle.rounds.proofs.Pausing.{lacking_from, lacking_full, stands_begun, stands_link}
use Rattle.rounds.proofs.intake.Intake.read_beside.Goals as goal

pub read-requires-clause-stands : goal.read-requires-clause-stands
read-requires-clause-stands g c =
    let here = reached g.S.Source.left g.S.Source.faults c.args.reader.now in
    (here, (here.place, stands_begun _ here c.in-Ok.round c.requires.ready c.in-Ok.ensures.begun))

pub read-requires-clause-fewer : goal.read-requires-clause-fewer
read-requires-clause-fewer g c = omega (arith, ap length c.in-Ok.ensures.begun.none, c.begin.ensures.budget.0)

pub returns-in-Err-clause-read : goal.returns-in-Err-clause-read
returns-in-Err-clause-read g c =
    let n = c.read_none in
    read_none c.args.self.now.blocks c.args.self.now.budget (reader_at g.S.Source.left g.S.Source.faults c.args.reader.now c.args.self.now.taken) _ n.result n.ensures.none.0 n.ensures.none.2 n.ensures.end
    n.ensures.budget.0 (omega arith)

pub returns-in-Ended-clause-read : goal.returns-in-Ended-clause-read
returns-in-Ended-clause-read g c =
    let r = c.read in
    let e = c.in-Ended.ensures in
    let here = reached g.S.Source.left g.S.Source.faults c.args.reader.now in
    let begun = stands_begun _ here c.in-Ok.round c.requires.ready c.in-Ok.ensures.begun in
    read_ended (reader_at g.S.Source.left g.S.Source.faults c.args.reader.now c.args.self.now.taken) (reader_at g.S.Source.left g.S.Source.faults r.new.reader r.new.self.taken) r.new.round.round
    (record { round = c.into_round-round.result; end = c.in-Ended.end }) (Ended c.in-Ended.end) refl refl refl c.into_round-round.ensures.same (e.fills here here.place begun) e.grows.size e.grows.fewer
    e.captured e.need e.grows.takes.within e.budget.0 (omega (arith, e.grows.takes.taken, c.in-Ok.ensures.begun.empty))

pub returns-then-not-bring_rest-clause-read : goal.returns-then-not-bring_rest-clause-read
returns-then-not-bring_rest-clause-read g c =
    let r = c.read in
    let e = r.ensures in
    let here = reached g.S.Source.left g.S.Source.faults c.args.reader.now in
    let begun = stands_begun _ here c.in-Ok.round c.requires.ready c.in-Ok.ensures.begun in
    let lacks = lacking_from r.result c.in_default.not-Ended in
    read_given_up c.args.self.now.blocks c.args.self.now.budget (reader_at g.S.Source.left g.S.Source.faults c.args.reader.now c.args.self.now.taken)
    (reader_at g.S.Source.left g.S.Source.faults r.new.reader c.bring_rest.new.self.taken) r.new.round.head r.new.round.round
    (record { round = c.into_round-round-then-not-bring_rest.result; end = GivenUp }) refl c.into_round-round-then-not-bring_rest.ensures.same ((e.fills here here.place begun).waits lacks)
    (e.grows.fewer (λ full. lacking_full (sym lacks ∙ full))) e.captured e.need e.grows.takes.within e.budget.0
    (omega (arith, e.grows.takes.taken, c.in-Ok.ensures.begun.empty, c.bring_rest.ensures.same.1))

pub read-halt-requires-clause-stands : goal.read-halt-requires-clause-stands
read-halt-requires-clause-stands g c =
    let here = reached g.S.Source.left g.S.Source.faults c.args.reader.now in
    let begun = stands_begun _ here c.in-Ok.round c.requires.ready c.in-Ok.ensures.begun in
    (here, (here.place, (c.read.ensures.fills here here.place begun).waits (lacking_from c.read.result c.in_default.not-Ended)))

pub read-halt-requires-clause-link : goal.read-halt-requires-clause-link
read-halt-requires-clause-link g c =
    let here = reached g.S.Source.left g.S.Source.faults c.args.reader.now in
    let begun = stands_begun _ here c.in-Ok.round c.requires.ready c.in-Ok.ensures.begun in
    let mid = reached g.S.Source.left g.S.Source.faults c.read.new.reader in
    let waits = (c.read.ensures.fills here here.place begun).waits (lacking_from c.read.result c.in_default.not-Ended) in
    stands_link here here.place mid _ _ waits ∙ c.requires.link

pub returns-clause-read : goal.returns-clause-read
returns-clause-read g c =
    let r = c.read-halt in
    let e = r.ensures in
    let first = c.read.ensures in
    let brought = c.bring_rest.ensures.same in
    let here = reached g.S.Source.left g.S.Source.faults c.args.reader.now in
    let begun = stands_begun _ here c.in-Ok.round c.requires.ready c.in-Ok.ensures.begun in
    let waits = (first.fills here here.place begun).waits (lacking_from c.read.result c.in_default.not-Ended) in
    read_ended (reader_at g.S.Source.left g.S.Source.faults c.args.reader.now c.args.self.now.taken) (reader_at g.S.Source.left g.S.Source.faults r.new.reader r.new.self.taken) r.new.round.round
    (record { round = c.into_round-round-2.result; end = c.end-end.result }) r.result (brought.0 ∙ first.same.0) (brought.2 ∙ first.same.1) c.end-end.ensures.end c.into_round-round-2.ensures.same
    (e.fills here here.place waits) e.grows.size e.grows.fewer e.captured e.need e.grows.takes.within e.budget.0
    (omega (arith, first.grows.takes.taken, first.grows.takes.least.0, c.in-Ok.ensures.begun.empty, brought.1, e.grows.takes.taken, e.grows.takes.least.0))
