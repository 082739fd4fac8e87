use Rattle.std.proofs.Common.{◌≡◌, [], length}
use Rattle.offload_examples.proofs.steps.buffers.empty.Given as goal

abbrev pub decreases-loop : goal.decreases-loop
decreases-loop l = length l.out.soles

abbrev pub invariant-loop-receipt : goal.invariant-loop-receipt
invariant-loop-receipt l = l.out.soles ≡ []

abbrev pub decreases-loop-receipt : goal.decreases-loop-receipt
decreases-loop-receipt l = length l.out.receipts
