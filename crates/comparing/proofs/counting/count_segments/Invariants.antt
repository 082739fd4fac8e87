use Rattle.std.proofs.Common.{◌≤◌, ℕ, List, map}
use Rattle.taps.specs.Clones.{packet_of}
use Rattle.comparing.specs.Segments.{IsCutTo}
use Rattle.comparing.proofs.Turning.{IsCounted}
use Rattle.comparing.proofs.counting.count_segments.Given as goal

abbrev pub invariant-loop-i : goal.invariant-loop-i
invariant-loop-i l = record {
  few : l.count ≤ l.i;
  each : (f : List ℕ) → IsCutTo l.cut f l.headers 0 l.fn.payload → IsCounted (map packet_of l.kept) l.cut f l.headers l.payload l.fn.at l.i l.at l.count;
}
