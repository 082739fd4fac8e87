use Rattle.std.proofs.Common.{vec_len}
use Rattle.frags.proofs.outcomes.Outcomes.settle.Given as goal

abbrev pub decreases-loop-receipt : goal.decreases-loop-receipt
decreases-loop-receipt l = vec_len l.receipts
