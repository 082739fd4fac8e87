use Rattle.std.proofs.Common.{refl}
use Rattle.rounds.specs.Reads.{reader_at}
use Rattle.rounds.specs.Merged.{sink_at}
use Rattle.rounds.proofs.Written.{all_merged}
use Rattle.pipeline.proofs.merging.merge_beside.Goals as goal

pub returns-clause-merged : goal.returns-clause-merged
returns-clause-merged g c =
    all_merged (sink_at g.K.Sink.held g.K.Sink.is_flushed g.K.Sink.faults) c.args.file.now _ c.args.rounds.now c.handle_beside.new.rounds
    (reader_at g.S.Source.left g.S.Source.faults c.args.reader.now c.args.rounds.now.taken)
    (reader_at g.S.Source.left g.S.Source.faults c.handle_beside.new.reader c.handle_beside.new.rounds.taken) c.args.sink.now c.handle_beside.new.into c.handle_beside.result refl refl c.requires.file
    c.handle_beside.ensures.handled

pub returns-clause-gives : goal.returns-clause-gives
returns-clause-gives g c = c.handle_beside.ensures.handled.rests.gives
