use Rattle.std.proofs.Common.{◌≤◌, ◌-◌, length, drop}
use Rattle.off_io.specs.Content.{Owes}
use Rattle.check_totals.specs.Lines.{lines_from, queue_line}
use Rattle.check_totals.proofs.lines.write_queues.Given as goal

abbrev pub invariant-lines : goal.invariant-lines
invariant-lines g l =
    (l.queue ≤ length l.queues)
    × Owes (g.K.Sink.held l.initial.sink) (g.K.Sink.held l.sink) (lines_from queue_line 0 l.queues) (lines_from queue_line l.queue (drop l.queue l.queues))
    × (g.K.Sink.faults l.initial.sink ≤ g.K.Sink.faults l.sink)

abbrev pub decreases-lines : goal.decreases-lines
decreases-lines g l = length l.initial.queues - l.queue
