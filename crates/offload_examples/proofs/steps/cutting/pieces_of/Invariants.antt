use Rattle.std.proofs.Common.{◌*◌, ◌≤◌, length}
use Rattle.frags.specs.PieceList.{size_of}
use Rattle.offload_examples.proofs.steps.cutting.pieces_of.Given as goal

abbrev pub invariant-loop-block : goal.invariant-loop-block
invariant-loop-block l = record {
  size : size_of l.builder.pieces ≤ 1984 * l.count;
  pieces : length l.builder.pieces ≤ l.count;
  few : l.count ≤ 40;
}
