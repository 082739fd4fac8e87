use Rattle.std.proofs.Common.{◌≡◌, ℕ, ◌++◌, List, drop}
use Rattle.frame_layout.specs.Candidate.{is_length_right}
use Rattle.frame_layout.specs.Headers.{all_headers}
use Rattle.wire_fill.proofs.lengths.are_lengths_right.Given as goal

abbrev pub invariant-loop-header : goal.invariant-loop-header
invariant-loop-header l =
    (rest : List ℕ) → all_headers (is_length_right l.len (l.head ++ rest)) (drop l.header-index l.headers)
    ≡ all_headers (is_length_right l.len (l.head ++ rest)) l.headers
