use Rattle.std.proofs.Common.{length}
use Rattle.buffer_tour.proofs.bring_home.Given as goal

abbrev pub decreases-loop-block : goal.decreases-loop-block
decreases-loop-block l = length l.out.soles
