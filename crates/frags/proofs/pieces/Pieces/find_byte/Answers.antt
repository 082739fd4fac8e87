use Rattle.std.proofs.Common.{length, ap, subst, sym, arith}
use Rattle.frags.specs.PieceList.{Fits, AllFit}
use Rattle.frags.proofs.Joining.{AllFit-at}
use Rattle.frags.proofs.pieces.Pieces.find_byte.Goals as goal

pub overflow_sub-size : goal.overflow_sub-size
overflow_sub-size c =
    let v = ap length c.self.view_is in
    let f = subst Fits (sym c.index-piece.ensures) (AllFit-at c.self.inside.items.items c.loop-k.k
    c.index-piece.result.now c.self.invariant.2 (omega arith)) in
    let a = f.0 in
    omega arith

pub bounds-bytes-piece : goal.bounds-bytes-piece
bounds-bytes-piece c =
    let v = ap length c.self.view_is in
    let f = subst Fits (sym c.index-piece.ensures) (AllFit-at c.self.inside.items.items c.loop-k.k
    c.index-piece.result.now c.self.invariant.2 (omega arith)) in
    let a = f.0 in
    let b = f.1 in
    let s = c.bytes.ensures.size in
    omega arith

pub returns-then-left-size-clause-fits : goal.returns-then-left-size-clause-fits
returns-then-left-size-clause-fits c = subst AllFit c.self.view_is c.self.invariant.2
