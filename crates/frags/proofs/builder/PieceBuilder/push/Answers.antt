use Rattle.std.proofs.Common.{◌∷◌, [], ◌++◌, length, arith, ◌∙◌, ap, sym, subst}
use Rattle.block_weight.specs.WeightRule.{IsWeight}
use Rattle.frags.specs.BuilderState.{BuilderState}
use Rattle.frags.specs.PieceList.{size_of, AllFit}
use Rattle.frags.proofs.Accounts.{append_keeps}
use Rattle.frags.proofs.PieceBytes.{size_of-append, AllFit-append}
use Rattle.frags.specs.declared.pieces.Piece.{Piece}
use Rattle.frags.proofs.builder.PieceBuilder.push.Goals as goal

pub invariant_of-self : goal.invariant_of-self
invariant_of-self c =
    let i = c.self.invariant in
    let e = c.push_back_reserved.ensures.items in
    let s = ap size_of e ∙ size_of-append c.self.inside.items.items (record {
      part = c.args.part;
      from = c.args.from;
      to = c.args.to;
    } ∷ []) in
    let v = ap (λ (b : BuilderState). size_of b.pieces) c.self.view_is in
    let l = ap length c.bytes.ensures.value in (
      omega arith,
      omega arith,
      subst AllFit (sym e) (AllFit-append _ _ i.2 (
        (
          c.requires.range.0,
          c.requires.range.1,
          sym l ∙ c.bytes.ensures.size,
          subst IsWeight c.weight.ensures.value c.weight.ensures.range,
        ),
        tt,
      )),
    )

pub returns-clause-kept : goal.returns-clause-kept
returns-clause-kept c =
    let x : Piece = record { part = c.args.part; from = c.args.from; to = c.args.to } in
    append_keeps c.args.self.now.pieces c.push_back_reserved.new.self.items x (c.push_back_reserved.ensures.items
    ∙ ap (λ (b : BuilderState). b.pieces ++ x ∷ []) c.self.view_is)
