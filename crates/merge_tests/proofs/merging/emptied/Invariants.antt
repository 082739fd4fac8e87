use Rattle.std.proofs.Common.{◌≡◌, [], length}
use Rattle.merge_tests.proofs.merging.emptied.Given as goal

abbrev pub invariant-loop-sole : goal.invariant-loop-sole
invariant-loop-sole l = Unit {0}

abbrev pub decreases-loop-sole : goal.decreases-loop-sole
decreases-loop-sole l = length l.outcomes.soles

abbrev pub invariant-loop-receipt : goal.invariant-loop-receipt
invariant-loop-receipt l = l.outcomes.soles ≡ []

abbrev pub decreases-loop-receipt : goal.decreases-loop-receipt
decreases-loop-receipt l = length l.outcomes.receipts
