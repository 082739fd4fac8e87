use Rattle.std.proofs.Common.{◌≤◌, length}
use Rattle.comparing.proofs.Passing.{ArePassed}
use Rattle.comparing.proofs.bytes.Bytes.begins_alike.Given as goal

abbrev pub invariant-loop-left : goal.invariant-loop-left
invariant-loop-left l = record {
  within : l.left ≤ length l.own;
  passed : ArePassed l.n l.left l.fn.self l.others l.self l.own;
}

abbrev pub decreases-loop-left : goal.decreases-loop-left
decreases-loop-left l = l.left
