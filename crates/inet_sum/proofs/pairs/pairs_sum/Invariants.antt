use Rattle.std.proofs.Common.{◌*◌, take}
use Rattle.inet_sum.proofs.Held.{Held}
use Rattle.inet_sum.proofs.pairs.pairs_sum.Given as goal

abbrev pub invariant-loop-i : goal.invariant-loop-i
invariant-loop-i l = Held l.i l.totals l.highs (take (16 * l.i) l.bytes)
