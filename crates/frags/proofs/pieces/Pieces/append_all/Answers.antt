use Rattle.std.proofs.Common.{◌≡◌, ◌∙◌, ◌++◌, ◌∷◌, [], List, length, ap, sym, subst, arith}
use Rattle.block_weight.specs.WeightRule.{IsWeight}
use Rattle.frags.specs.PieceList.{size_of}
use Rattle.frags.specs.declared.pieces.Piece.{Piece}
use Rattle.frags.proofs.Joining.{takes_in_is, takes_in_fit, takes_in_keeps, takes_in_marks}
use Rattle.frags.proofs.pieces.Pieces.append_all.Goals as goal

pub invariant_of-self-2 : goal.invariant_of-self-2
invariant_of-self-2 c =
    let x : Piece = record { part = c.into_part-part.result; from = c.args.from; to = c.args.to } in
    let i = c.self.invariant in
    let j = c.others.invariant in
    let l = ap length c.bytes.ensures.value in
    let r = c.requires.range in
    let w = subst IsWeight c.weight.ensures.value c.weight.ensures.range in
    let e : c.push_back_reserved.new.self.items ≡ c.self.inside.items.items ++ x ∷ [] =
    c.push_back_reserved.ensures.items ∙ ap (λ (z : List Piece). z ++ x ∷ []) c.reserve.ensures.items in
    let b : c.append.new.self.items ≡ (c.self.inside.items.items ++ x ∷ []) ++ c.others.inside.items.items =
    c.in-Ok.ensures.items ∙ ap (λ (z : List Piece). z ++ c.others.inside.items.items) e in
    let f = takes_in_fit c.self.inside.items.items c.others.inside.items.items
    c.append.new.self.items x b i.2 (r.0, r.1, sym l ∙ c.bytes.ensures.size, w) j.2 in
    let u = ap size_of c.self.view_is in
    let v = ap size_of c.others.view_is in
    let s = c.requires.small in
    (omega arith, omega arith, f.1)

pub returns-clause-kept : goal.returns-clause-kept
returns-clause-kept c = λ p k.
    let x : Piece = record { part = c.into_part-part.result; from = c.args.from; to = c.args.to } in
    let e : c.push_back_reserved.new.self.items ≡ c.self.inside.items.items ++ x ∷ [] =
    c.push_back_reserved.ensures.items ∙ ap (λ (z : List Piece). z ++ x ∷ []) c.reserve.ensures.items in
    let d : c.append.new.self.items ≡ (c.self.inside.items.items ++ x ∷ []) ++ c.others.inside.items.items =
    c.in-Ok.ensures.items ∙ ap (λ (z : List Piece). z ++ c.others.inside.items.items) e in
    let b = takes_in_is c.args.self.now c.self.inside.items.items c.args.others c.others.inside.items.items
    c.append.new.self.items x d c.self.view_is c.others.view_is in
    takes_in_keeps c.args.self.now c.args.others c.append.new.self.items c.args.holder p x c.into_part-part.ensures.part k b

pub returns-clause-marks : goal.returns-clause-marks
returns-clause-marks c =
    let x : Piece = record { part = c.into_part-part.result; from = c.args.from; to = c.args.to } in
    let e : c.push_back_reserved.new.self.items ≡ c.self.inside.items.items ++ x ∷ [] =
    c.push_back_reserved.ensures.items ∙ ap (λ (z : List Piece). z ++ x ∷ []) c.reserve.ensures.items in
    let d : c.append.new.self.items ≡ (c.self.inside.items.items ++ x ∷ []) ++ c.others.inside.items.items =
    c.in-Ok.ensures.items ∙ ap (λ (z : List Piece). z ++ c.others.inside.items.items) e in
    let b = takes_in_is c.args.self.now c.self.inside.items.items c.args.others c.others.inside.items.items
    c.append.new.self.items x d c.self.view_is c.others.view_is in
    takes_in_marks c.args.self.now c.args.others c.append.new.self.items c.args.holder x c.into_part-part.ensures.part b
