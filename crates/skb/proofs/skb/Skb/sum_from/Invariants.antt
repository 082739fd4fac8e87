use Rattle.skb.specs.Checksum.{IsSummed}
use Rattle.skb.proofs.skb.Skb.sum_from.Given as goal

abbrev pub invariant-loop-i : goal.invariant-loop-i
invariant-loop-i l = record {
  summed : IsSummed l.self l.at l.i l.sum;
}
