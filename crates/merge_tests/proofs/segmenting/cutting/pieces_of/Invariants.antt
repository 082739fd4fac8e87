use Rattle.std.proofs.Common.{◌≡◌, ◌≤◌}
use Rattle.frags.specs.PieceList.{size_of}
use Rattle.merge_tests.proofs.segmenting.cutting.pieces_of.Given as goal

abbrev pub invariant-loop-piece : goal.invariant-loop-piece
invariant-loop-piece g l = record {
  same : l.total ≡ size_of l.builder.pieces;
  most : l.total ≤ 271984;
}
