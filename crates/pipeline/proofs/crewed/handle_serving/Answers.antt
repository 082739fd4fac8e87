use Rattle.std.proofs.Common.{sym}
use Rattle.rounds.specs.Handled.{Handled}
use Rattle.rounds.specs.Merging.{options_of}
use Rattle.rounds.specs.Reads.{reader_at}
use Rattle.pipeline.proofs.Kept.{as_three}
use Rattle.pipeline.proofs.crewed.handle_serving.Goals as goal

pub returns-clause-same_source : goal.returns-clause-same_source
returns-clause-same_source g c = let handles = c.join_mut-end.ensures.1.met in rw (c.reader-1.given.1 (sym handles.0.4)) handles.1.0

pub returns-clause-handled : goal.returns-clause-handled
returns-clause-handled g c =
    let handles = c.join_mut-end.ensures.1.met in
    let first = c.args.rounds.now in
    let did = g.H.RoundHandler.did c.args.handler.now (options_of first) in
    let from = reader_at g.S.Source.left g.S.Source.faults c.args.reader.now first.taken in
    as_three (λ rounds reader into. Handled did g.H.RoundHandler.stopped (g.H.RoundHandler.ready (options_of first) first.keep) 0 first rounds from
    (reader_at g.S.Source.left g.S.Source.faults reader rounds.taken) c.args.into.now into c.join_mut-end.result.1)
    (c.rounds-1.given.1 (sym handles.0.3)) (c.reader-1.given.1 (sym handles.0.4)) (c.into-1.given.1 (sym handles.0.6)) handles.1.1
