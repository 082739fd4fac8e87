use Rattle.std.proofs.Common.{◌≡◌, ℕ, ◌≤◌, List, ◌++◌, length, drop}
use Rattle.inet_sum.specs.Stands.{StandsFor}
use Rattle.offload_model.specs.Edits.{with_sums}
use Rattle.header_fill.specs.Filled.{header_before}
use Rattle.header_fill.proofs.sums.put_sums.Given as goal

abbrev pub invariant-loop-i : goal.invariant-loop-i
invariant-loop-i l = record {
  within : l.i ≤ length l.headers;
  summed : (bytes : List ℕ) → StandsFor l.payload bytes → l.head ++ bytes ≡ with_sums (header_before l.headers l.i) (drop l.i l.headers) (l.fn.head ++ bytes);
}

abbrev pub decreases-loop-i : goal.decreases-loop-i
decreases-loop-i l = l.i
