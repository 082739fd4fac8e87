use Rattle.std.proofs.Common.{arith}
use Rattle.std.proofs.lemmas.Result.{err_from_is_err_and}
use Rattle.records.proofs.Writing.{stopped}
use Rattle.records.proofs.Slices.{one_more, one_failed}
use Rattle.records.proofs.buffer.write_pieces.Goals as goal

pub returns-in_err-write_all : goal.returns-in_err-write_all
returns-in_err-write_all g c =
    let p = err_from_is_err_and c.from_residual.result c.from_residual.ensures.1 in
    let e = c.in_err-write_all.ensures in
    let err = one_failed c.args.frame.now.rest c.loop-i.i c.slice.result.now _ _ _ (omega arith) c.slice.ensures.bytes c.loop-i.invariant.0 e.err in
    record { writes = stopped c.from_residual.result _ _ _ _ _ _ p.0 _ p.1 err c.loop-i.invariant.1 e.cause }

pub loop-i-preserved : goal.loop-i-preserved
loop-i-preserved g c = (
  one_more c.args.frame.now.rest c.loop-i.i c.slice.result.now _ _ _ (omega arith) c.slice.ensures.bytes c.loop-i.invariant.0 c.in_ok-write_all.ensures.ok,
  omega (arith, c.in_ok-write_all.ensures.cause.later),
)
