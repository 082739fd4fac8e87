use Rattle.std.proofs.Common.{take, drop, subst}
use Rattle.std.specs.Prelude.{OnErr}
use Rattle.std.proofs.lemmas.List.{take-append-drop, take_rest}
use Rattle.off_io.specs.Content.{AppendsPrefix}
use Rattle.off_io.proofs.Owing.{then_err}
use Rattle.off_io.proofs.sink.write_all.Goals as goal

pub returns-clause-err : goal.returns-clause-err
returns-clause-err g c =
    let bytes = c.args.bytes.now in
    let count = c.in-Ok.count in
    subst (λ all. OnErr c.write_rest.result (AppendsPrefix (g.K.Sink.held c.args.sink.now) (g.K.Sink.held c.write_rest.new.sink) all))
    (take-append-drop count bytes)
    (then_err c.write_rest.result _ _ _ (take count bytes) (drop count bytes) c.in-Ok.ensures.bytes (rw (take_rest bytes count) at c.write_rest.ensures.err))
