use Rattle.std.proofs.Common.{◌≡◌, ℕ, ◌≤◌, List, ◌++◌, length, drop}
use Rattle.offload_model.specs.Merged.{is_fixed}
use Rattle.offload_model.specs.Edits.{with_edits, put_place}
use Rattle.header_fill.proofs.place.put_places.Given as goal

abbrev pub invariant-loop-k : goal.invariant-loop-k
invariant-loop-k l = record {
  within : l.k ≤ length l.headers;
  edited : (rest : List ℕ) → l.head ++ rest ≡ with_edits (put_place (is_fixed l.modes l.headers) l.i l.n) (drop l.k l.headers) (l.fn.head ++ rest);
}

abbrev pub decreases-loop-k : goal.decreases-loop-k
decreases-loop-k l = l.k
