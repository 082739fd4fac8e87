use Rattle.std.proofs.Common.{length}
use Rattle.lanes.proofs.free.free_outcomes.Given as goal

abbrev pub decreases-loop-sole : goal.decreases-loop-sole
decreases-loop-sole l = length l.outcomes.soles
