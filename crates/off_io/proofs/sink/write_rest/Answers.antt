use Rattle.std.proofs.Common.{arith, length-drop, ◌≤◌, length, drop}
use Rattle.std.proofs.lemmas.List.{take_rest}
use Rattle.std.proofs.Common.{take}
use Rattle.std.specs.Io.KnownBytes.{Appends}
use Rattle.off_io.proofs.Pieces.{wrote_more}
use Rattle.off_io.proofs.sink.write_rest.Goals as goal

pub loop-at-preserved : goal.loop-at-preserved
loop-at-preserved g c =
    let bound : c.in-Ok.count ≤ length (drop c.loop-at.at c.args.bytes.now) = rw (← take_rest c.args.bytes.now c.loop-at.at) c.in-Ok.ensures.bound in
    let wrote : Appends (g.K.Sink.held c.loop-at.sink) (g.K.Sink.held c.write.new.self) (take c.in-Ok.count (drop c.loop-at.at c.args.bytes.now)) = rw
    (← take_rest c.args.bytes.now c.loop-at.at) c.in-Ok.ensures.bytes in (
      omega (arith, length-drop c.loop-at.at c.args.bytes.now),
      wrote_more _ _ _ _ _ _ c.loop-at.invariant.1 wrote,
      omega (arith, c.in-Ok.ensures.cause.later),
    )
