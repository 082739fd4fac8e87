use Rattle.std.proofs.Common.{◌≡◌, ◌≤◌, length}
use Rattle.gso_cutter.proofs.Summing.{IsSummed}
use Rattle.gso_cutter.proofs.sums.sum_of.Given as goal

abbrev pub invariant-loop-i : goal.invariant-loop-i
invariant-loop-i l = record {
  end : l.n ≡ length l.pieces;
  summed : IsSummed l.pieces l.i l.sum;
  within : l.i ≤ l.n;
}
