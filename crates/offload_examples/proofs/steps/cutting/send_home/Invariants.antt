use Rattle.std.proofs.Common.{◌≡◌, ◌≤◌, [], length}
use Rattle.offload_examples.proofs.steps.cutting.send_home.Given as goal

abbrev pub invariant-loop-block : goal.invariant-loop-block
invariant-loop-block l = l.fn.out.spare ≤ l.out.spare

abbrev pub decreases-loop-block : goal.decreases-loop-block
decreases-loop-block l = length l.out.soles

abbrev pub invariant-loop-receipt : goal.invariant-loop-receipt
invariant-loop-receipt l = (l.fn.out.spare ≤ l.out.spare) × (l.out.soles ≡ [])

abbrev pub decreases-loop-receipt : goal.decreases-loop-receipt
decreases-loop-receipt l = length l.out.receipts
