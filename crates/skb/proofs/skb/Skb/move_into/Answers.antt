use Rattle.std.proofs.Common.{◌≡◌, ◌++◌, [], ◌∷◌, ◌∙◌, List, refl, ap, subst, append_assoc, arith}
use Rattle.frags.specs.PieceList.{size_of}
use Rattle.frags.specs.declared.pieces.Piece.{Piece}
use Rattle.frags.proofs.PieceBytes.{size_of-append}
use Rattle.skb.specs.SkbState.{SkbState, buffer_size}
use Rattle.skb.specs.Moving.{MovesRest, MovesHead}
use Rattle.skb.proofs.Moved.{
  rest_bytes_moved,
  head_bytes_moved,
  rest_size_moved,
  head_size_moved,
  joins_kept,
  rest_account,
  head_account,
  rest_least,
  head_least_moved,
}
use Rattle.skb.proofs.skb.Skb.move_into.Goals.{After-give_back_holder, After-append-2}
use Rattle.skb.proofs.skb.Skb.move_into.Goals as goal

-- an empty head goes back
rest : (c : After-give_back_holder) → MovesRest c.args.self c.args.pieces.now.pieces c.args.out.now c.append.new.self.pieces c.give_back_holder.new.self
rest c = subst (λ (z : SkbState). MovesRest z c.args.pieces.now.pieces c.args.out.now c.append.new.self.pieces c.give_back_holder.new.self)
    c.self.view_is (c.append.ensures.appended, c.give_back_holder.ensures.grows, c.give_back_holder.ensures.kept)

empty : (c : After-give_back_holder) → c.args.self.from ≡ c.args.self.to
empty c = subst (λ (z : SkbState). z.from ≡ z.to) c.self.view_is c.if-from-to.true

pub returns-then-from-to-clause-bytes : goal.returns-then-from-to-clause-bytes
returns-then-from-to-clause-bytes c =
    rest_bytes_moved c.args.self c.args.pieces.now.pieces c.append.new.self.pieces c.args.out.now c.give_back_holder.new.self (empty c) (rest c)

pub returns-then-from-to-clause-size : goal.returns-then-from-to-clause-size
returns-then-from-to-clause-size c =
    rest_size_moved c.args.self c.args.pieces.now.pieces c.append.new.self.pieces c.args.out.now c.give_back_holder.new.self (empty c) (rest c)

pub returns-then-from-to-clause-account : goal.returns-then-from-to-clause-account
returns-then-from-to-clause-account c =
    rest_account c.args.self c.args.pieces.now.pieces c.append.new.self.pieces c.args.out.now c.give_back_holder.new.self (rest c)

pub returns-then-from-to-clause-least : goal.returns-then-from-to-clause-least
returns-then-from-to-clause-least c =
    rest_least c.args.self c.args.pieces.now.pieces c.append.new.self.pieces c.args.out.now c.give_back_holder.new.self (rest c)

pub returns-then-from-to-clause-kept : goal.returns-then-from-to-clause-kept
returns-then-from-to-clause-kept c = λ e. joins_kept c.args.self _ c.args.out.now _
    c.give_back_holder.new.self e (returns-then-from-to-clause-account c)

pub append-requires-2-clause-small : goal.append-requires-2-clause-small
append-requires-2-clause-small c =
    let x : Piece = record { part = c.into_part.result; from = c.self.inside.from; to = c.self.inside.to } in
    let e = ap size_of c.push.ensures.pushed ∙ size_of-append c.args.pieces.now.pieces (x ∷ []) in
    let u = ap buffer_size c.self.view_is in
    let r = c.requires.small in
    omega arith

-- any other is a piece
head : (c : After-append-2) → MovesHead c.args.self c.args.pieces.now.pieces c.args.out.now c.append-2.new.self.pieces c.args.out.now
head c =
    let a = c.args.pieces.now.pieces in
    let x : Piece = record { part = c.into_part.result; from = c.self.inside.from; to = c.self.inside.to } in
    let e : c.append-2.new.self.pieces ≡ a ++ x ∷ c.self.inside.rest = c.append-2.ensures.appended ∙ ap (λ (z : List Piece). z ++ c.self.inside.rest)
    c.push.ensures.pushed ∙ append_assoc a (x ∷ []) c.self.inside.rest in
    subst (λ (z : SkbState). MovesHead z a c.args.out.now c.append-2.new.self.pieces c.args.out.now)
    c.self.view_is (refl, (c.into_part.result, (c.into_part.ensures.part, e)))

pub returns-clause-bytes : goal.returns-clause-bytes
returns-clause-bytes c =
    head_bytes_moved c.args.self c.args.pieces.now.pieces c.append-2.new.self.pieces c.args.out.now c.args.out.now (head c)

pub returns-clause-size : goal.returns-clause-size
returns-clause-size c =
    head_size_moved c.args.self c.args.pieces.now.pieces c.append-2.new.self.pieces c.args.out.now c.args.out.now (head c)

pub returns-clause-account : goal.returns-clause-account
returns-clause-account c =
    head_account c.args.self c.args.pieces.now.pieces c.append-2.new.self.pieces c.args.out.now c.args.out.now (head c)

pub returns-clause-least : goal.returns-clause-least
returns-clause-least c =
    head_least_moved c.args.self c.args.pieces.now.pieces c.append-2.new.self.pieces c.args.out.now c.args.out.now (head c)

pub returns-clause-kept : goal.returns-clause-kept
returns-clause-kept c = λ e. joins_kept c.args.self _ c.args.out.now _ c.args.out.now e (returns-clause-account c)
