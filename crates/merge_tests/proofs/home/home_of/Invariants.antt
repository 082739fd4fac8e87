use Rattle.std.proofs.Common.{length}
use Rattle.merge_tests.proofs.home.home_of.Given as goal

abbrev pub decreases-loop-blocks : goal.decreases-loop-blocks
decreases-loop-blocks l = length l.out.soles
