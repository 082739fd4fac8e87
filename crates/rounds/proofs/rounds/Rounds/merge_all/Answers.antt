use Rattle.std.proofs.Common.{refl}
use Rattle.rounds.specs.Reads.{reader_at}
use Rattle.rounds.specs.Merged.{sink_at}
use Rattle.rounds.proofs.Written.{all_merged}
use Rattle.rounds.proofs.rounds.Rounds.merge_all.Goals as goal

pub returns-clause-merged : goal.returns-clause-merged
returns-clause-merged g c =
    all_merged (sink_at g.K.Sink.held g.K.Sink.is_flushed g.K.Sink.faults) c.args.file.now _ c.args.self.now c.handle_from.new.rounds
    (reader_at g.S.Source.left g.S.Source.faults c.args.reader.now c.args.self.now.taken)
    (reader_at g.S.Source.left g.S.Source.faults c.handle_from.new.reader c.handle_from.new.rounds.taken) c.args.sink.now c.handle_from.new.into c.handle_from.result refl refl c.requires.file
    c.handle_from.ensures.handled
