use Rattle.std.proofs.Common.{length}
use Rattle.lanes.proofs.free.free_clones.Given as goal

abbrev pub decreases-loop-clone : goal.decreases-loop-clone
decreases-loop-clone l = length l.clones.items
