use Rattle.std.proofs.Common.{◌∙◌, ◌++◌, List, ap, arith}
use Rattle.frags.specs.PieceList.{size_of}
use Rattle.frags.proofs.Joining.{joins_fit}
use Rattle.frags.proofs.Accounts.{join_keeps}
use Rattle.frags.specs.declared.pieces.Piece.{Piece}
use Rattle.frags.proofs.pieces.Pieces.join_back.Goals as goal

pub invariant_of-self : goal.invariant_of-self
invariant_of-self c =
    let f = joins_fit c.self.inside.items.items c.other.inside.items.items c.append.new.self.items c.in-Ok.ensures.items
    c.self.invariant.2 c.other.invariant.2 in
    let i = c.self.invariant in
    let j = c.other.invariant in
    let u = ap size_of c.self.view_is in
    let v = ap size_of c.other.view_is in
    (omega arith, omega arith, f.1)

pub returns-in-Ok-clause-kept : goal.returns-in-Ok-clause-kept
returns-in-Ok-clause-kept c = join_keeps c.args.self.now c.args.other
    c.append.new.self.items (c.in-Ok.ensures.items ∙ ap (λ (z : List Piece). z ++ c.other.inside.items.items)
    c.self.view_is ∙ ap (λ (z : List Piece). c.args.self.now ++ z) c.other.view_is)
