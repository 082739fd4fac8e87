use Rattle.std.proofs.Common.{arith}
use Rattle.frame_runs.proofs.Payloads.{headers_low}
use Rattle.frame_bursts.proofs.Saying.{alone_frame}
use Rattle.frame_bursts.proofs.told.put_headers.Goals as goal

pub slice_bounds-put_headers-end : goal.slice_bounds-put_headers-end
slice_bounds-put_headers-end g c =
    omega (
      arith,
      headers_low c.args.run.now (g.F.Frame.packet c.args.first.now) c.requires.run.0 c.requires.run.1
          (omega (arith, c.if-run-eq0.false)),
      c.headers_len-at.ensures.size,
    )

pub returns-then-run-eq0-clause-frame : goal.returns-then-run-eq0-clause-frame
returns-then-run-eq0-clause-frame g c = λ rest k.
    alone_frame (g.F.Frame.packet c.args.first.now) rest c.args.headers.now (omega (arith, k.more, c.if-run-eq0.true))
