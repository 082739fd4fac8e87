use Rattle.std.proofs.Common.{◌≡◌, take}
use Rattle.check_totals.specs.Counts.{queue_sum}
use Rattle.check_totals.proofs.lines.sum_of.Given as goal

abbrev pub invariant-queues : goal.invariant-queues
invariant-queues l = l.sum ≡ queue_sum (take l.queue-index l.queues)
