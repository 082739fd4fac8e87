use Rattle.std.proofs.Common.{◌≡◌, ℕ, ◌+◌, ◌≤◌, List, ◌++◌, length, drop}
use Rattle.inet_sum.specs.Stands.{StandsFor}
use Rattle.header_fill.specs.Filled.{header_before}
use Rattle.wire_model.specs.Filling.{fates_of, fill_sums}
use Rattle.wire_fill.specs.Fated.{IsFated}
use Rattle.wire_fill.proofs.sums.fill_sums.Given as goal

abbrev pub invariant-loop-i : goal.invariant-loop-i
invariant-loop-i l = record {
  within : l.i ≤ length l.headers;
  few : l.fates.filled + l.fates.wrong + l.i ≤ length l.headers;
  filled : (bytes : List ℕ) → StandsFor l.payload bytes
      → l.head ++ bytes ≡ fill_sums l.all (header_before l.headers l.i) (drop l.i l.headers) (l.fn.head ++ bytes);
  fated : (bytes : List ℕ) → StandsFor l.payload bytes
      → IsFated (fates_of l.all (header_before l.headers l.i) (drop l.i l.headers) (l.fn.head ++ bytes)) l.fates;
}

abbrev pub decreases-loop-i : goal.decreases-loop-i
decreases-loop-i l = l.i
