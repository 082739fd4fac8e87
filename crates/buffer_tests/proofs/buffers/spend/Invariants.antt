use Rattle.std.proofs.Common.{length}
use Rattle.buffer_tests.proofs.buffers.spend.Given as goal

abbrev pub decreases-loop-soles : goal.decreases-loop-soles
decreases-loop-soles l = length l.out.soles
