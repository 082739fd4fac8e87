use Rattle.std.proofs.Common.{arith}
use Rattle.std.proofs.lemmas.Result.{err_from_is_err_and}
use Rattle.check_totals.specs.Lines.{queue_line}
use Rattle.check_totals.proofs.Owing.{line_written, line_failed}
use Rattle.check_totals.proofs.lines.write_queues.Goals as goal

pub returns-in_err-write_queue-clause-err : goal.returns-in_err-write_queue-clause-err
returns-in_err-write_queue-clause-err g c =
    let p = err_from_is_err_and c.from_residual.result c.from_residual.ensures.1 in
    rw p.1 (line_failed queue_line c.args.queues.now c.lines.queue _ _ _ _ c.lines-test.true c.lines.invariant.1 c.in_err-write_queue.ensures.err)

pub lines-preserved : goal.lines-preserved
lines-preserved g c = (
  omega (arith, c.lines-test.true),
  line_written queue_line c.args.queues.now c.lines.queue _ _ _ _ c.lines-test.true c.lines.invariant.1 c.in_ok-write_queue.ensures.ok,
  omega (arith, c.lines.invariant.2, c.in_ok-write_queue.ensures.cause.later),
)
