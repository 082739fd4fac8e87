use Rattle.std.proofs.Common.{◌≡◌, ◌≤◌, ◌++◌, ◌∙◌, List, false, length, ap, subst, sym, arith}
use Rattle.frags.specs.Gifts.{front, back, cut_worn}
use Rattle.frags.specs.PieceList.{size_of, AllFit, bytes_of, pieces_held}
use Rattle.frags.specs.declared.pieces.Piece.{Piece}
use Rattle.frags.proofs.Splits.{size_of-front, size_of-back, AllFit-front, AllFit-back, split_bytes, split_sums, split_count}
use Rattle.frags.proofs.pieces.Pieces.split_at.Goals.{After-replace-items}
use Rattle.frags.proofs.pieces.Pieces.split_at.Goals as goal

fronted : (c : After-replace-items) → c.replace-items.new.dest.items ≡ front c.args.at c.self.inside.items.items
fronted c = rw c.replace-items.ensures.after c.split_into.ensures.front

behind : (c : After-replace-items) → c.replace-items.result.items ≡ back c.args.at c.self.inside.items.items
behind c = rw c.replace-items.ensures.value c.split_into.ensures.back

within : (c : After-replace-items) → c.args.at ≤ size_of c.self.inside.items.items
within c =
    let i = c.self.invariant in
    omega arith

sound : (c : After-replace-items) → cut_worn c.args.at c.self.inside.items.items ≡ false
sound c = ap (cut_worn c.args.at) c.self.view_is ∙ sym c.cut_at-count.ensures.worn ∙ c.if-is_worn.false

pub invariant_of-result : goal.invariant_of-result
invariant_of-result c =
    let p = (goal.at.invariant_of-result c).After-replace-items in
    let i = c.self.invariant in
    let s = size_of-back c.args.at c.self.inside.items.items (within p) in
    let z = ap size_of (behind p) in
    (omega arith, omega arith, subst AllFit (sym (behind p)) (AllFit-back c.args.at c.self.inside.items.items i.2 (sound p)))

pub invariant_of-self : goal.invariant_of-self
invariant_of-self c =
    let p = (goal.at.invariant_of-self c).After-replace-items in
    let i = c.self.invariant in
    let s = size_of-front c.args.at c.self.inside.items.items (within p) in
    let z = ap size_of (fronted p) in
    (omega arith, omega arith, subst AllFit (sym (fronted p)) (AllFit-front c.args.at c.self.inside.items.items i.2 (sound p)))

pub returns-clause-bytes : goal.returns-clause-bytes
returns-clause-bytes c =
    let p = (goal.at.returns-clause-bytes c).After-replace-items in
    let items = c.self.inside.items.items in (
      ap bytes_of (sym c.self.view_is) ∙ split_bytes c.args.at items
          ∙ ap (λ (z : List Piece). bytes_of z ++ bytes_of (back c.args.at items)) (sym (fronted p))
          ∙ ap (λ (z : List Piece). bytes_of c.replace-items.new.dest.items ++ bytes_of z) (sym (behind p)),
      ap size_of (fronted p) ∙ size_of-front c.args.at items (within p),
    )

pub returns-clause-sums : goal.returns-clause-sums
returns-clause-sums c = λ t m.
    let p = (goal.at.returns-clause-sums c).After-replace-items in
    let s = split_sums t m c.args.at c.self.inside.items.items c.self.invariant.2 (sound p) in
    let a = ap (pieces_held t m) (fronted p) in
    let b = ap (pieces_held t m) (behind p) in
    let v = ap (pieces_held t m) c.self.view_is in
    omega arith

pub returns-clause-count : goal.returns-clause-count
returns-clause-count c =
    let p = (goal.at.returns-clause-count c).After-replace-items in
    let a = ap length (fronted p) in
    let b = ap length (behind p) in
    let v = ap length c.self.view_is in
    let s = split_count c.args.at c.self.inside.items.items in
    omega arith

pub returns-clause-sizes : goal.returns-clause-sizes
returns-clause-sizes c =
    let p = (goal.at.returns-clause-sizes c).After-replace-items in
    let i = c.self.invariant in
    let items = c.self.inside.items.items in
    let a = ap size_of (fronted p) ∙ size_of-front c.args.at items (within p) in
    let b = ap size_of (behind p) in
    let s = size_of-back c.args.at items (within p) in
    let v = ap size_of c.self.view_is in
    omega arith
