use Rattle.std.proofs.Common.{length, sym, ◌∙◌}
use Rattle.std.proofs.lemmas.Bool.{eqb-true}
use Rattle.std.proofs.lemmas.List.{nil_from_length}
use Rattle.reading.proofs.Filling.{no_front}
use Rattle.reading.proofs.body.read_front.Goals as goal

pub returns-then-is_empty-clause-given : goal.returns-then-is_empty-clause-given
returns-then-is_empty-clause-given g c =
    let front = c.args.front.now in
    no_front _ c.args.reader.now.place front (nil_from_length front (eqb-true (length front) 0 (sym c.is_empty.ensures ∙ c.if-is_empty.true)))
