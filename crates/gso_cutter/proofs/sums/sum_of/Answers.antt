use Rattle.std.proofs.Common.{[], arith}
use Rattle.frags.specs.declared.pieces.Piece.{Piece}
use Rattle.gso_cutter.proofs.Summing.{summed_more, summed_few}
use Rattle.gso_cutter.proofs.sums.sum_of.Goals as goal

none : Piece
none = record { part = record { life = record { names = (0, 0); block = 0 }; weight = 0; bytes = []; mark = 0 }; from = 0; to = 0 }

pub add-requires : goal.add-requires
add-requires c = record {
  few = summed_few c.args.pieces.now c.loop-i.i none c.loop-i.sum c.slice.result.now (omega (arith, c.loop-i.invariant.end, c.loop-i-test.true)) c.loop-i.invariant.summed (c.slice.ensures.bytes none)
      (omega (arith, c.len.ensures.bytes, c.len.ensures.small));
}

pub loop-i-preserved : goal.loop-i-preserved
loop-i-preserved c =
    let i = c.loop-i.invariant in
    record {
      end = i.end;
      summed = summed_more c.args.pieces.now c.loop-i.i none c.loop-i.sum c.slice.result.now (omega (arith, i.end, c.loop-i-test.true)) i.summed (c.slice.ensures.bytes none) c.add.new.self
          (c.add.ensures.sum i.summed.done i.summed.stands);
      within = omega (arith, c.loop-i-test.true);
    }
