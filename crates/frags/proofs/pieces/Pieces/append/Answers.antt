use Rattle.std.proofs.Common.{◌∷◌, [], ◌++◌, List, length, arith, ◌∙◌, ap, sym, subst}
use Rattle.block_weight.specs.WeightRule.{IsWeight}
use Rattle.frags.specs.PieceList.{size_of, AllFit}
use Rattle.frags.proofs.Accounts.{append_keeps}
use Rattle.frags.proofs.PieceBytes.{size_of-append, AllFit-append}
use Rattle.frags.specs.declared.pieces.Piece.{Piece}
use Rattle.frags.proofs.pieces.Pieces.append.Goals as goal

pub invariant_of-self : goal.invariant_of-self
invariant_of-self c =
    let i = c.self.invariant in
    let e = c.in-Ok.ensures.items in
    let s = ap size_of e ∙ size_of-append c.self.inside.items.items (record {
      part = c.args.part;
      from = c.args.from;
      to = c.args.to;
    } ∷ []) in
    let v = ap size_of c.self.view_is in
    let l = ap length c.bytes.ensures.value in (
      omega arith,
      omega arith,
      subst AllFit (sym e) (AllFit-append _ _ i.2 (
        (
          c.requires.range.0,
          c.requires.range.1,
          sym l ∙ c.bytes.ensures.size,
          subst IsWeight c.weight.ensures.value c.weight.ensures.range,
        ),
        tt,
      )),
    )

pub returns-in-Ok-clause-kept : goal.returns-in-Ok-clause-kept
returns-in-Ok-clause-kept c =
    let x : Piece = record { part = c.args.part; from = c.args.from; to = c.args.to } in
    append_keeps c.args.self.now c.push_back.new.self.items x (c.in-Ok.ensures.items ∙ ap (λ (z : List Piece). z ++ x ∷ []) c.self.view_is)
