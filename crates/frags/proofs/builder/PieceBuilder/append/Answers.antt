use Rattle.std.proofs.Common.{◌∙◌, ◌++◌, List, ap, arith}
use Rattle.frags.specs.BuilderState.{BuilderState}
use Rattle.frags.specs.PieceList.{size_of}
use Rattle.frags.proofs.Joining.{joins_fit}
use Rattle.frags.proofs.Accounts.{join_keeps}
use Rattle.frags.specs.declared.pieces.Piece.{Piece}
use Rattle.frags.proofs.builder.PieceBuilder.append.Goals as goal

pub invariant_of-self : goal.invariant_of-self
invariant_of-self c =
    let f = joins_fit c.self.inside.items.items c.pieces.inside.items.items c.append.new.self.items
    c.in-Ok.ensures.items c.self.invariant.2 c.pieces.invariant.2 in
    let i = c.self.invariant in
    let j = c.pieces.invariant in
    let u = ap (λ (b : BuilderState). size_of b.pieces) c.self.view_is in
    let v = ap size_of c.pieces.view_is in
    (omega arith, omega arith, f.1)

pub returns-clause-kept : goal.returns-clause-kept
returns-clause-kept c = join_keeps c.args.self.now.pieces c.args.pieces
    c.append.new.self.items (c.in-Ok.ensures.items ∙ ap (λ (b : BuilderState). b.pieces ++ c.pieces.inside.items.items)
    c.self.view_is ∙ ap (λ (z : List Piece). c.args.self.now.pieces ++ z) c.pieces.view_is)
