use Rattle.std.proofs.Common.{◌≡◌, ◌+◌, ◌-◌, ◌≤◌, length, ◌∷◌, [], ◌∙◌, ℕ, List, ap, subst, sym, arith}
use Rattle.frags.specs.Account.{both, of_outcomes}
use Rattle.frags.specs.PieceList.{size_of, bytes_of, keep_front, AllFit, of_pieces}
use Rattle.frags.specs.declared.pieces.Piece.{Piece}
use Rattle.frags.proofs.Growing.{grows_trans, grows_by}
use Rattle.frags.proofs.Accounts.{keeps_pop_back}
use Rattle.frags.proofs.Places.{IsLast, last_piece, IsCutLast, last_cut, keep_front-less, keep_front-bytes}
use Rattle.frags.proofs.pieces.Pieces.cut_back.Goals.{In-Some, After-push_back_reserved}
use Rattle.frags.proofs.pieces.Pieces.cut_back.Goals as goal

-- the piece that is taken
last : (c : In-Some) → IsLast c.loop-piece.self-inside.items.items c.pop_back.new.self.items c.in-Some.piece
last c = last_piece c.loop-piece.self-inside.items.items c.pop_back.new.self.items c.in-Some.piece c.in-Some.ensures.items c.loop-piece.invariant.fits

pub overflow_sub-start : goal.overflow_sub-start
overflow_sub-start c =
    let a = (last (goal.at.overflow_sub-start c).In-Some).0.0 in
    omega arith

pub overflow_sub-start-in-Some : goal.overflow_sub-start-in-Some
overflow_sub-start-in-Some c =
    let s = c.loop-piece.invariant.size in
    let z = (last (goal.at.overflow_sub-start-in-Some c).In-Some).2 in
    omega arith

-- its front goes back
cut : (c : After-push_back_reserved) → IsCutLast (c.self.inside.size - c.args.n) c.loop-piece.self-inside.items.items c.push_back_reserved.new.self.items
cut c =
    let i = c.loop-piece.invariant in
    let s = i.size in
    let z = (last (goal.at.invariant_of-self c).In-Some).2 in
    let keep : ℕ = c.self.inside.size - c.args.n in
    let start : ℕ = c.loop-piece.self-inside.size - (c.in-Some.piece.to - c.in-Some.piece.from) in
    last_cut keep start c.loop-piece.self-inside.items.items c.pop_back.new.self.items
    c.push_back_reserved.new.self.items c.in-Some.piece c.in-Some.ensures.items
    c.push_back_reserved.ensures.items (omega arith) c.if-start-keep.true (omega arith) i.fits

kept : (c : After-push_back_reserved) → c.push_back_reserved.new.self.items ≡ keep_front (size_of c.args.self.now - c.args.n) c.args.self.now
kept c =
    let i = c.loop-piece.invariant in
    (cut c).0 ∙ i.rest ∙ ap (λ (k : ℕ). keep_front k c.args.self.now) i.kept_size

pub invariant_of-self : goal.invariant_of-self
invariant_of-self c =
    let y = c.self.invariant.1 in
    (sym (cut c).1, omega arith, (cut c).2)

pub returns-then-start-keep-clause-cut : goal.returns-then-start-keep-clause-cut
returns-then-start-keep-clause-cut c =
    let u = ap size_of c.self.view_is in
    let y = c.self.invariant.0 in
    (omega arith, kept c)

pub returns-then-start-keep-clause-bytes : goal.returns-then-start-keep-clause-bytes
returns-then-start-keep-clause-bytes c = ap bytes_of (kept c)
    ∙ keep_front-bytes (size_of c.args.self.now - c.args.n) c.args.self.now (subst AllFit c.self.view_is c.self.invariant.2)

pub returns-then-start-keep-clause-kept : goal.returns-then-start-keep-clause-kept
returns-then-start-keep-clause-kept c = λ t m.
    let h = (cut c).3 t m in
    let k = c.loop-piece.invariant.kept t m in
    (omega arith, omega arith)

pub loop-piece-preserved : goal.loop-piece-preserved
loop-piece-preserved c =
    let i = c.loop-piece.invariant in
    let g = last (goal.at.loop-piece-preserved c).In-Some in
    let s = i.size in
    let z = g.2 in
    let n = g.3 in
    let p = c.give_back.ensures.places in
    let keep : ℕ = c.self.inside.size - c.args.n in
    let lt : keep ≤ size_of c.pop_back.new.self.items = omega arith in
    record {
      rest = sym (keep_front-less keep c.pop_back.new.self.items (c.in-Some.piece ∷ []) lt)
          ∙ ap (λ (v : List Piece). keep_front keep v) (sym c.in-Some.ensures.items) ∙ i.rest;
      kept_size = i.kept_size;
      size = omega arith;
      small = omega arith;
      fits = g.1;
      enough = omega arith;
      fewer = omega arith;
      places = omega arith;
      grows = grows_by (length c.args.self.now - length c.loop-piece.self-inside.items.items + 1)
          (length c.args.self.now - length c.pop_back.new.self.items) c.args.out.now
          c.give_back.new.out (grows_trans (length c.args.self.now - length c.loop-piece.self-inside.items.items) 1
          c.args.out.now c.loop-piece.out c.give_back.new.out i.grows c.give_back.ensures.grows) (omega arith);
      kept = keeps_pop_back (both (of_pieces c.args.self.now) (of_outcomes c.args.out.now)) c.in-Some.piece
          c.loop-piece.self-inside.items.items c.pop_back.new.self.items c.loop-piece.out c.give_back.new.out
          c.in-Some.ensures.items i.kept c.give_back.ensures.kept;
    }
