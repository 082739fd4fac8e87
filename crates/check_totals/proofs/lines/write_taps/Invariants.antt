use Rattle.std.proofs.Common.{◌≤◌, ◌-◌, length, drop}
use Rattle.off_io.specs.Content.{Owes}
use Rattle.check_totals.specs.Lines.{lines_from, tap_line}
use Rattle.check_totals.proofs.lines.write_taps.Given as goal

abbrev pub invariant-lines : goal.invariant-lines
invariant-lines g l =
    (l.tap ≤ length l.taps)
    × Owes (g.K.Sink.held l.initial.sink) (g.K.Sink.held l.sink) (lines_from tap_line 0 l.taps) (lines_from tap_line l.tap (drop l.tap l.taps))
    × (g.K.Sink.faults l.initial.sink ≤ g.K.Sink.faults l.sink)

abbrev pub decreases-lines : goal.decreases-lines
decreases-lines g l = length l.initial.taps - l.tap
