use Rattle.check_totals.specs.Counts.{Counts}
use Rattle.check_totals.proofs.Owing.{queues_failed, taps_failed, lanes_ok, lanes_err}
use Rattle.check_totals.proofs.lines.write_lanes.Goals as goal

pub returns-in_err-write_queues-clause-err : goal.returns-in_err-write_queues-clause-err
returns-in_err-write_queues-clause-err g c =
    let counts : Counts = record { queues = c.args.queues.now; taps = c.args.taps.now } in
    queues_failed c.from_residual.result counts _ _ c.in_err-write_queues.ensures.err

pub returns-in_err-write_taps-clause-err : goal.returns-in_err-write_taps-clause-err
returns-in_err-write_taps-clause-err g c =
    let counts : Counts = record { queues = c.args.queues.now; taps = c.args.taps.now } in
    taps_failed c.from_residual-in_err-write_taps.result counts _ _ _ c.in_ok-write_queues.ensures.ok c.in_err-write_taps.ensures.err

pub returns-clause-ok : goal.returns-clause-ok
returns-clause-ok g c =
    let counts : Counts = record { queues = c.args.queues.now; taps = c.args.taps.now } in
    lanes_ok c.write_total.result counts c.sum_of.result c.sum_of.ensures.sum _ _ _ _ c.in_ok-write_queues.ensures.ok c.in_ok-write_taps.ensures.ok c.write_total.ensures.ok

pub returns-clause-err : goal.returns-clause-err
returns-clause-err g c =
    let counts : Counts = record { queues = c.args.queues.now; taps = c.args.taps.now } in
    lanes_err c.write_total.result counts c.sum_of.result c.sum_of.ensures.sum _ _ _ _ c.in_ok-write_queues.ensures.ok c.in_ok-write_taps.ensures.ok c.write_total.ensures.err
