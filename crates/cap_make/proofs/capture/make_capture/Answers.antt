use Rattle.std.proofs.Common.{arith, ap, ◌∙◌, subst, ◌++◌, ◌-◌}
use Rattle.std.proofs.lemmas.Result.{err_from_is_err_and}
use Rattle.off_io.specs.Content.{AppendsPrefix, Owes}
use Rattle.off_io.proofs.Appending.{prefix_more}
use Rattle.off_io.proofs.Owing.{Owes-less, Owes-failed, Owes-none}
use Rattle.cap_make.specs.Capture.{first_next, made, records_from}
use Rattle.cap_make.proofs.Steps.{made_is, next_owed, none_owed}
use Rattle.cap_make.proofs.capture.make_capture.Goals as goal

pub returns-in_err-write_all-clause-err : goal.returns-in_err-write_all-clause-err
returns-in_err-write_all-clause-err g c =
    let p = err_from_is_err_and c.from_residual.result c.from_residual.ensures.1 in
    let seed = c.args.seed in let count = c.args.count in
    let head = c.bytes.ensures.bytes ∙ c.of_file_header-buffer.ensures.bytes in
    rw p.1 (subst (AppendsPrefix _ _) (ap (λ z. z ++ records_from (count - 0) 0 (first_next seed)) head ∙ made_is seed count)
    (prefix_more _ _ c.bytes.result.now (records_from (count - 0) 0 (first_next seed)) c.in_err-write_all.ensures.err))

pub loop-number-init : goal.loop-number-init
loop-number-init g c =
    let seed = c.args.seed in let count = c.args.count in
    let head = c.bytes.ensures.bytes ∙ c.of_file_header-buffer.ensures.bytes in (
      (
        c.bytes.result.now,
        c.in_ok-write_all.ensures.ok,
        ap (λ z. c.bytes.result.now ++ records_from (count - 0) 0 z) c.new-maker.ensures.first ∙ ap
            (λ z. z ++ records_from (count - 0) 0 (first_next seed)) head ∙ made_is seed count,
      ),
      c.in_ok-write_all.ensures.cause.later,
    )

pub loop-number-preserved : goal.loop-number-preserved
loop-number-preserved g c =
    let owed = next_owed c.args.count c.loop-number.number c.loop-number.maker c.next_record.new.self c.bytes-in-loop-number.result.now (omega arith)
    (c.bytes-in-loop-number.ensures.bytes ∙ c.next_record.ensures.bytes) c.next_record.ensures.next in
    let owes = subst (Owes (g.K.Sink.held c.args.sink.now) (g.K.Sink.held c.loop-number.sink) (made c.args.seed c.args.count)) owed c.loop-number.invariant.0 in (
      Owes-less _ _ _ _ _ _ owes c.in_ok-write_all-2.ensures.ok,
      omega (arith, c.in_ok-write_all-2.ensures.cause.later),
    )

pub returns-in_err-write_all-2-clause-err : goal.returns-in_err-write_all-2-clause-err
returns-in_err-write_all-2-clause-err g c =
    let p = err_from_is_err_and c.from_residual-in_err-write_all-2.result c.from_residual-in_err-write_all-2.ensures.1 in
    let owed = next_owed c.args.count c.loop-number.number c.loop-number.maker c.next_record.new.self c.bytes-in-loop-number.result.now (omega arith)
    (c.bytes-in-loop-number.ensures.bytes ∙ c.next_record.ensures.bytes) c.next_record.ensures.next in
    let owes = subst (Owes (g.K.Sink.held c.args.sink.now) (g.K.Sink.held c.loop-number.sink) (made c.args.seed c.args.count)) owed c.loop-number.invariant.0 in
    rw p.1 (Owes-failed _ _ _ _ _ _ owes c.in_err-write_all-2.ensures.err)

pub returns-clause-ok : goal.returns-clause-ok
returns-clause-ok g c =
    let none = none_owed (c.args.count - c.loop-number.number) c.loop-number.number c.loop-number.maker (omega arith) in
    Owes-none _ _ _ (subst (Owes (g.K.Sink.held c.args.sink.now) (g.K.Sink.held c.loop-number.sink) (made c.args.seed c.args.count)) none c.loop-number.invariant.0)
