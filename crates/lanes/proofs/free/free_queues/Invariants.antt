use Rattle.std.proofs.Common.{length}
use Rattle.lanes.proofs.free.free_queues.Given as goal

abbrev pub decreases-loop-lane : goal.decreases-loop-lane
decreases-loop-lane l = length l.lanes.items
