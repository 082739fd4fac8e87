use Rattle.std.proofs.Common.{◌≡◌, [], length}
use Rattle.buffer_tests.proofs.pieces.blocks.counted.Given as goal

abbrev pub decreases-loop-soles : goal.decreases-loop-soles
decreases-loop-soles l = length l.out.soles

abbrev pub invariant-loop-receipt : goal.invariant-loop-receipt
invariant-loop-receipt l = l.out.soles ≡ []

abbrev pub decreases-loop-receipt : goal.decreases-loop-receipt
decreases-loop-receipt l = length l.out.receipts
