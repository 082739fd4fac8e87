use Rattle.std.proofs.Common.{◌≡◌, ◌≤◌}
use Rattle.frags.specs.PieceList.{size_of}
use Rattle.merge_tests.proofs.tapping.packets.pieces_of.Given as goal

abbrev pub invariant-loop-block : goal.invariant-loop-block
invariant-loop-block l = record {
  same : l.total ≡ size_of l.builder.pieces;
  most : l.total ≤ 1002000;
}
