use Rattle.std.proofs.Common.{length, ap, subst, sym, arith}
use Rattle.frags.specs.PieceList.{Fits}
use Rattle.frags.proofs.Joining.{AllFit-at}
use Rattle.frags.proofs.pieces.Pieces.slice.Goals as goal

pub bytes_in-requires : goal.bytes_in-requires
bytes_in-requires c = record {
  fits = let v = ap length c.self.view_is in subst Fits (sym c.index.ensures)
      (AllFit-at c.self.inside.items.items c.args.i c.index.result.now c.self.invariant.2 (omega arith));
}
