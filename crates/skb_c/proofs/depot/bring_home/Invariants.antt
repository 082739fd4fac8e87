use Rattle.std.proofs.Common.{◌≡◌, [], length}
use Rattle.skb_c.specs.Home.{AreLight}
use Rattle.skb_c.proofs.depot.bring_home.Given as goal

abbrev pub invariant-loop-receipt : goal.invariant-loop-receipt
invariant-loop-receipt l = record {
  none : l.out.soles ≡ [];
  light : AreLight l.out.receipts → AreLight l.fn.out.receipts;
}

abbrev pub decreases-loop-receipt : goal.decreases-loop-receipt
decreases-loop-receipt l = length l.out.receipts
