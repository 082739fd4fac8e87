use Rattle.std.proofs.Common.{◌-◌, ◌≤◌}
use Rattle.off_io.specs.Content.{Owes}
use Rattle.cap_make.specs.Capture.{made, records_from}
use Rattle.cap_make.proofs.capture.make_capture.Given as goal

-- what is still owed, and that no fault is forgotten
abbrev pub invariant-loop-number : goal.invariant-loop-number
invariant-loop-number g l =
    Owes (g.K.Sink.held l.fn.sink) (g.K.Sink.held l.sink) (made l.fn.seed l.count) (records_from (l.count - l.number) l.number l.maker)
    × (g.K.Sink.faults l.fn.sink ≤ g.K.Sink.faults l.sink)
