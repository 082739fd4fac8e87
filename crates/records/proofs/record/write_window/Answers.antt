use Rattle.std.proofs.Common.{List, ℕ, refl, subst}
use Rattle.std.specs.Prelude.{OnOk, OnErr}
use Rattle.std.specs.Io.KnownBytes.{Appends}
use Rattle.std.proofs.lemmas.Result.{err_from_is_err_and}
use Rattle.off_io.specs.Content.{AppendsPrefix}
use Rattle.off_io.proofs.Appending.{prefix_more}
use Rattle.off_io.proofs.Owing.{then_ok, then_err}
use Rattle.records.proofs.Heads.{record_is}
use Rattle.records.proofs.record.write_window.Goals as goal

pub returns-in_err-write_heads-clause-err : goal.returns-in_err-write_heads-clause-err
returns-in_err-write_heads-clause-err g c =
    let p = err_from_is_err_and c.from_residual.result c.from_residual.ensures.1 in
    let t = c.args.time in
    let frame : List ℕ = c.args.frame.now in
    rw p.1 (subst (AppendsPrefix _ _) (record_is c.args.file.now.order t.sec t.frac _ c.args.original c.args.head frame refl)
    (prefix_more _ _ _ frame c.in_err-write_heads.ensures.writes.err))

pub returns-clause-ok : goal.returns-clause-ok
returns-clause-ok g c =
    let t = c.args.time in
    let frame : List ℕ = c.args.frame.now in
    subst (λ (z : List ℕ). OnOk c.write_all.result (Appends (g.K.Sink.held c.args.sink.now) (g.K.Sink.held c.write_all.new.sink) z))
    (record_is c.args.file.now.order t.sec t.frac _ c.args.original c.args.head frame refl)
    (then_ok c.write_all.result _ _ _ _ frame c.in_ok-write_heads.ensures.writes.ok c.write_all.ensures.ok)

pub returns-clause-err : goal.returns-clause-err
returns-clause-err g c =
    let t = c.args.time in
    let frame : List ℕ = c.args.frame.now in
    subst (λ (z : List ℕ). OnErr c.write_all.result (AppendsPrefix (g.K.Sink.held c.args.sink.now) (g.K.Sink.held c.write_all.new.sink) z))
    (record_is c.args.file.now.order t.sec t.frac _ c.args.original c.args.head frame refl)
    (then_err c.write_all.result _ _ _ _ frame c.in_ok-write_heads.ensures.writes.ok c.write_all.ensures.err)
