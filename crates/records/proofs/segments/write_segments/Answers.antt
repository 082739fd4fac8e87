use Rattle.std.proofs.Common.{arith, le_refl, length-take}
use Rattle.std.proofs.lemmas.Result.{err_from_is_err_and}
use Rattle.records.specs.Records.{segment_bytes}
use Rattle.records.proofs.Stretches.{owes_less, owes_failed, owes_first}
use Rattle.records.proofs.segments.write_segments.Goals as goal

pub returns-in_err-write_segment-clause-err : goal.returns-in_err-write_segment-clause-err
returns-in_err-write_segment-clause-err g c =
    let p = err_from_is_err_and c.from_residual.result c.from_residual.ensures.1 in
    let s = c.args.segments.now in
    rw p.1 (owes_failed (segment_bytes c.args.file.now.order c.args.time s) s.cut.n c.loop-i.i _ _ _ _ (omega (arith, c.count-i-end.ensures.count)) c.loop-i.invariant.owes c.in_err-write_segment.ensures.writes.err)

pub loop-i-preserved : goal.loop-i-preserved
loop-i-preserved g c =
    let i = c.loop-i.invariant in
    let s = c.args.segments.now in
    record {
      at = c.in_ok-write_segment.ensures.next;
      size = c.write_segment.ensures.size;
      owes = owes_less (segment_bytes c.args.file.now.order c.args.time s) s.cut.n c.loop-i.i _ _ _ _ (omega (arith, c.count-i-end.ensures.count)) i.owes c.in_ok-write_segment.ensures.writes.ok;
      later = omega (arith, i.later, c.in_ok-write_segment.ensures.writes.cause.later);
    }

pub loop-i-init : goal.loop-i-init
loop-i-init g c =
    let s = c.args.segments.now in
    let bytes = segment_bytes c.args.file.now.order c.args.time s in
    record {
      at = c.first-place.ensures.first;
      size = simp length-take (omega (arith, c.headers_len.ensures.len, c.headers_len.ensures.low));
      owes = owes_first bytes s.cut.n (g.K.Sink.held c.args.sink.now);
      later = le_refl _;
    }
