use Rattle.std.proofs.Common.{◌+◌, ◌-◌, List, length, arith, ap, sym, subst}
use Rattle.frags.specs.Account.{both, of_outcomes}
use Rattle.frags.specs.PieceList.{of_pieces}
use Rattle.frags.specs.Returns.{ReturnsPieces}
use Rattle.frags.specs.declared.pieces.Piece.{Piece}
use Rattle.frags.proofs.Growing.{grows_trans, grows_by}
use Rattle.frags.proofs.Accounts.{keeps_pop, blocks_pop}
use Rattle.frags.proofs.pieces.Pieces.release.Goals as goal

pub loop-piece-preserved : goal.loop-piece-preserved
loop-piece-preserved c =
    let e = c.in-Some.ensures.items in
    let n = ap length e in
    let i = c.loop-piece.invariant in
    record {
      fewer = omega arith;
      grows = grows_by (length c.args.self - length c.loop-piece.items.items + 1)
          (length c.args.self - length c.pop_front.new.self.items) c.args.out.now
          c.give_back.new.out (grows_trans (length c.args.self - length c.loop-piece.items.items) 1 c.args.out.now
          c.loop-piece.out c.give_back.new.out i.grows c.give_back.ensures.grows) (omega arith);
      places = omega arith;
      kept = keeps_pop (both (of_pieces c.args.self) (of_outcomes c.args.out.now)) c.in-Some.piece
          c.loop-piece.items.items c.pop_front.new.self.items c.loop-piece.out c.give_back.new.out e i.kept
          c.give_back.ensures.kept;
      blocks = blocks_pop (both (of_pieces c.args.self) (of_outcomes c.args.out.now)) c.in-Some.piece
          c.loop-piece.items.items c.pop_front.new.self.items c.loop-piece.out c.give_back.new.out e i.blocks
          c.give_back.ensures.blocks;
      rest = λ z after. i.rest z (subst (λ (ps : List Piece). ReturnsPieces ps c.loop-piece.out z) (sym e)
          (c.give_back.new.out, c.give_back.ensures.gave, after));
    }
