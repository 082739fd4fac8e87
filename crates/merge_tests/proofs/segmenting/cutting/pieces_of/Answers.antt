use Rattle.std.proofs.Common.{arith, ap, ◌∙◌}
use Rattle.frags.specs.PieceList.{size_of}
use Rattle.frags.proofs.PieceBytes.{size_of-append}
use Rattle.merge_tests.proofs.segmenting.cutting.pieces_of.Goals as goal

pub loop-piece-preserved : goal.loop-piece-preserved
loop-piece-preserved g c =
    let n = ap size_of c.push.ensures.pushed ∙ size_of-append c.loop-piece.builder.pieces _ in
    let i = c.loop-piece.invariant in
    record {
      same = omega (arith, n, i.same);
      most = omega arith;
    }
