use Rattle.std.proofs.Common.{length, arith, ap, ◌∙◌, length-append}
use Rattle.frags.specs.PieceList.{size_of}
use Rattle.frags.proofs.PieceBytes.{size_of-append}
use Rattle.offload_examples.proofs.steps.cutting.pieces_of.Goals as goal

pub loop-block-preserved-then-room-gt0 : goal.loop-block-preserved-then-room-gt0
loop-block-preserved-then-room-gt0 c =
    let n = ap size_of c.push.ensures.pushed ∙ size_of-append c.loop-block.builder.pieces _ in
    let k = ap length c.push.ensures.pushed ∙ length-append c.loop-block.builder.pieces _ in
    let i = c.loop-block.invariant in
    record {
      size = omega (arith, n, i.size);
      pieces = omega (arith, k, i.pieces);
      few = omega arith;
    }
