use Rattle.std.proofs.Common.{◌-◌, length}
use Rattle.check_totals.specs.Counts.{queue_plus}
use Rattle.check_totals.proofs.Adding.{IsAdding}
use Rattle.check_totals.proofs.totals.add_queues.Given as goal

abbrev pub invariant-queues : goal.invariant-queues
invariant-queues l = IsAdding queue_plus l.queue l.initial.totals l.others l.totals

abbrev pub decreases-queues : goal.decreases-queues
decreases-queues l = length l.initial.totals - l.queue
