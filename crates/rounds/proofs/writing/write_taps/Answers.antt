use Rattle.std.proofs.Common.{arith, subst, sym}
use Rattle.std.proofs.lemmas.List.Elements.{All-from_recursion}
use Rattle.std.proofs.lemmas.Result.{err_from_is_err_and}
use Rattle.off_io.proofs.Owing.{wrote_one_more, failed_at}
use Rattle.rounds.specs.Lanes.{tap_bytes, IsSmallTap}
use Rattle.rounds.proofs.writing.write_taps.Goals as goal

pub write_tap-requires : goal.write_tap-requires
write_tap-requires g c =
    let l = c.lane-item.result in
    record { small = subst IsSmallTap (sym c.lane-item.is) (All-from_recursion IsSmallTap c.args.lanes.now c.requires.small c.loop-lane.lane-index l (omega arith)) }

pub loop-lane-preserved : goal.loop-lane-preserved
loop-lane-preserved g c = (
  wrote_one_more (tap_bytes c.args.file.now.order) c.args.lanes.now c.loop-lane.lane-index c.lane-item.result (omega arith) c.lane-item.is _ _ _ c.loop-lane.invariant.0 c.in_ok-write_tap.ensures.ok,
  omega (arith, c.in_ok-write_tap.ensures.cause.later),
)

pub returns-in_err-write_tap-clause-err : goal.returns-in_err-write_tap-clause-err
returns-in_err-write_tap-clause-err g c =
    let p = err_from_is_err_and c.from_residual.result c.from_residual.ensures.1 in
    rw p.1 (failed_at (tap_bytes c.args.file.now.order) c.args.lanes.now c.loop-lane.lane-index c.lane-item.result (omega arith) c.lane-item.is _ _ _ c.loop-lane.invariant.0
    c.in_err-write_tap.ensures.err)
