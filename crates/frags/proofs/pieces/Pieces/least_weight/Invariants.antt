use Rattle.std.proofs.Common.{◌≡◌, ◌≤◌, drop, min}
use Rattle.block_weight.specs.WeightRule.{full_weight}
use Rattle.frags.specs.PieceList.{least_weight}
use Rattle.frags.proofs.pieces.Pieces.least_weight.Given as goal

abbrev pub invariant-loop-i : goal.invariant-loop-i
invariant-loop-i l = record {
  least : min l.least (least_weight (drop l.i l.self-inside.items.items)) ≡ least_weight l.self-inside.items.items;
  full : l.least ≤ full_weight;
}
