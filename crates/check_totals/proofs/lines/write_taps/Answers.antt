use Rattle.std.proofs.Common.{arith}
use Rattle.std.proofs.lemmas.Result.{err_from_is_err_and}
use Rattle.check_totals.specs.Lines.{tap_line}
use Rattle.check_totals.proofs.Owing.{line_written, line_failed}
use Rattle.check_totals.proofs.lines.write_taps.Goals as goal

pub returns-in_err-write_tap-clause-err : goal.returns-in_err-write_tap-clause-err
returns-in_err-write_tap-clause-err g c =
    let p = err_from_is_err_and c.from_residual.result c.from_residual.ensures.1 in
    rw p.1 (line_failed tap_line c.args.taps.now c.lines.tap _ _ _ _ c.lines-test.true c.lines.invariant.1 c.in_err-write_tap.ensures.err)

pub lines-preserved : goal.lines-preserved
lines-preserved g c = (
  omega (arith, c.lines-test.true),
  line_written tap_line c.args.taps.now c.lines.tap _ _ _ _ c.lines-test.true c.lines.invariant.1 c.in_ok-write_tap.ensures.ok,
  omega (arith, c.lines.invariant.2, c.in_ok-write_tap.ensures.cause.later),
)
