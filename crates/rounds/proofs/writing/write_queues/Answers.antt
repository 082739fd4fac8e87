use Rattle.std.proofs.Common.{arith, subst, sym}
use Rattle.std.proofs.lemmas.List.Elements.{All-from_recursion}
use Rattle.std.proofs.lemmas.Result.{err_from_is_err_and}
use Rattle.off_io.proofs.Owing.{wrote_one_more, failed_at}
use Rattle.rounds.specs.Lanes.{queue_bytes, IsSmallQueue}
use Rattle.rounds.proofs.writing.write_queues.Goals as goal

pub write_queue-requires : goal.write_queue-requires
write_queue-requires g c =
    let l = c.lane-item.result in
    record { small = subst IsSmallQueue (sym c.lane-item.is) (All-from_recursion IsSmallQueue c.args.lanes.now c.requires.small c.loop-lane.lane-index l (omega arith)) }

pub loop-lane-preserved : goal.loop-lane-preserved
loop-lane-preserved g c = (
  wrote_one_more (queue_bytes c.args.file.now.order) c.args.lanes.now c.loop-lane.lane-index c.lane-item.result (omega arith) c.lane-item.is _ _ _ c.loop-lane.invariant.0
      c.in_ok-write_queue.ensures.ok,
  omega (arith, c.in_ok-write_queue.ensures.cause.later),
)

pub returns-in_err-write_queue-clause-err : goal.returns-in_err-write_queue-clause-err
returns-in_err-write_queue-clause-err g c =
    let p = err_from_is_err_and c.from_residual.result c.from_residual.ensures.1 in
    rw p.1 (failed_at (queue_bytes c.args.file.now.order) c.args.lanes.now c.loop-lane.lane-index c.lane-item.result (omega arith) c.lane-item.is _ _ _ c.loop-lane.invariant.0
    c.in_err-write_queue.ensures.err)
