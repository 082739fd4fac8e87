use Rattle.std.proofs.Common.{◌≡◌, ◌≤◌, length}
use Rattle.gso.proofs.BufferSums.{AreBufferSums}
use Rattle.gso.proofs.judging.sums_of.Given as goal

abbrev pub invariant-loop-i : goal.invariant-loop-i
invariant-loop-i l = record {
  end : l.n ≡ length l.skb.rest;
  summed : AreBufferSums l.skb l.m l.from l.i l.sums;
  within : l.i ≤ l.n;
}
