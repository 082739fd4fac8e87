use Rattle.std.proofs.Common.{◌+◌, refl, sym, ap, arith, length}
use Rattle.rounds.specs.Merging.{options_of}
use Rattle.rounds.specs.RoundsState.{RoundsState}
use Rattle.rounds.specs.Reads.{reader_at}
use Rattle.rounds.proofs.Going.{ready_as}
use Rattle.pipeline.proofs.Together.{put_ends, put_goes}
use Rattle.pipeline.proofs.here.handle_here.Goals as goal

pub returns-in-Some-clause-handled : goal.returns-in-Some-clause-handled
returns-in-Some-clause-handled g c =
    let h = c.in-Some.ensures in
    put_ends (g.H.RoundHandler.did c.args.handler.now) g.H.RoundHandler.stopped g.H.RoundHandler.ready c.args.rounds.now c.handle.new.self c.args.read
    (reader_at g.S.Source.left g.S.Source.faults c.args.reader.now c.args.rounds.now.taken) c.args.into.now c.handle.new.into c.requires.out.out c.requires.out.is.few h.home
    h.named
    (h.ready 0 c.requires.out.start) c.in-Some.end h.did

pub handle_from-requires-clause-start : goal.handle_from-requires-clause-start
handle_from-requires-clause-start g c =
    let h = c.in-None.ensures in
    let first = c.args.rounds.now in
    let mid = c.handle.new.self in
    let goes = c.requires.out.goes (h.full refl) in (
      0 + length c.args.read.round.packets,
      omega (arith, goes.packets),
      ready_as (g.H.RoundHandler.did c.args.handler.now) g.H.RoundHandler.stopped g.H.RoundHandler.ready (options_of mid) (options_of first) mid.keep first.keep (0 + length c.args.read.round.packets)
          c.handle.new.into (sym (ap options_of h.home.0)) (sym (ap (λ (s : RoundsState). s.keep) h.home.0)) (h.ready 0 c.requires.out.start),
    )

pub returns-in-None-clause-handled : goal.returns-in-None-clause-handled
returns-in-None-clause-handled g c =
    let h = c.in-None.ensures in
    put_goes (g.H.RoundHandler.did c.args.handler.now) g.H.RoundHandler.stopped g.H.RoundHandler.ready c.args.rounds.now c.handle.new.self c.args.read
    (reader_at g.S.Source.left g.S.Source.faults c.args.reader.now c.args.rounds.now.taken) c.args.into.now c.handle.new.into c.requires.out.out c.requires.out.is.few h.home
    h.named
    (h.ready 0 c.requires.out.start) c.handle_from.new.rounds (reader_at g.S.Source.left g.S.Source.faults c.handle_from.new.reader c.handle_from.new.rounds.taken)
    c.handle_from.new.into c.handle_from.result h.did (h.full refl) c.handle_from.ensures.handled
