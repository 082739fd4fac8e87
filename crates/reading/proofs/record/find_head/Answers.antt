use Rattle.std.specs.Prelude.{⊤}
use Rattle.off_io.proofs.Telling.{Told-same}
use Rattle.reading.proofs.Standing.{tells}
use Rattle.reading.proofs.record.find_head.Goals as goal

pub returns-in-Some-clause-tells : goal.returns-in-Some-clause-tells
returns-in-Some-clause-tells g c = Told-same (g.S.Source.left c.args.reader.now.source.now) (λ _ _. ⊤) (λ bytes. tt)

pub returns-clause-tells : goal.returns-clause-tells
returns-clause-tells g c = tells _ _ _ c.next_head.ensures.given
