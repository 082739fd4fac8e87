use Rattle.std.proofs.Common.{◌≡◌, ℕ, ◌≤◌, List, ◌++◌, length, drop}
use Rattle.offload_model.specs.Edits.{with_edits, put_flags}
use Rattle.header_fill.proofs.fields.put_flags.Given as goal

abbrev pub invariant-loop-i : goal.invariant-loop-i
invariant-loop-i l = record {
  within : l.i ≤ length l.headers;
  edited : (rest : List ℕ) → l.head ++ rest ≡ with_edits (put_flags l.flags) (drop l.i l.headers) (l.fn.head ++ rest);
}

abbrev pub decreases-loop-i : goal.decreases-loop-i
decreases-loop-i l = l.i
