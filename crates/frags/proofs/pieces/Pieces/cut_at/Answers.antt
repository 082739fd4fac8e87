use Rattle.std.proofs.Common.{length, ap, subst, sym, arith}
use Rattle.frags.specs.PieceList.{Fits}
use Rattle.frags.proofs.Joining.{AllFit-at}
use Rattle.frags.proofs.pieces.Pieces.cut_at.Goals as goal

pub overflow_sub-size : goal.overflow_sub-size
overflow_sub-size c =
    let v = ap length c.self.view_is in
    let f = subst Fits (sym c.index-piece.ensures) (AllFit-at c.self.inside.items.items c.loop-i.i
    c.index-piece.result.now c.self.invariant.2 (omega arith)) in
    let a = f.0 in
    omega arith
