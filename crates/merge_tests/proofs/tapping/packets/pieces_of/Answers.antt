use Rattle.std.proofs.Common.{arith, ap, ◌∙◌}
use Rattle.frags.specs.PieceList.{size_of}
use Rattle.frags.proofs.PieceBytes.{size_of-append}
use Rattle.merge_tests.proofs.tapping.packets.pieces_of.Goals as goal

pub loop-block-preserved-then-room-gt0 : goal.loop-block-preserved-then-room-gt0
loop-block-preserved-then-room-gt0 c =
    let n = ap size_of c.push.ensures.pushed ∙ size_of-append c.loop-block.builder.pieces _ in
    let i = c.loop-block.invariant in
    record {
      same = omega (arith, n, i.same);
      most = omega arith;
    }
