use Rattle.std.proofs.Common.{length, subst, sym, ◌≡◌, false, ap, ◌∙◌, arith}
use Rattle.frags.specs.PieceList.{size_of, pieces_held}
use Rattle.frags.specs.Account.{of_holder, every}
use Rattle.skb.specs.SkbState.{SkbState, is_sole}
use Rattle.frags.proofs.Shares.{size_of-kept, size_of-given}
use Rattle.skb.proofs.Buffers.{lent_gives, gives_sums, lent_held, lent_marks}
use Rattle.skb.proofs.skb.Skb.clone.Goals as goal

pub invariant_of-result : goal.invariant_of-result
invariant_of-result c =
    let i = c.self.invariant in
    let j = c.in_ok-rest.ensures.share in
    let e = lent_gives c.self.inside.head c.replace_with.new.dest c.replace_with-part.new.dest
    c.replace_with-part.result c.replace_with.ensures c.replace_with-part.ensures in
    let s = ap size_of j.2 ∙ size_of-given c.self.inside.rest in
    (i.0, i.1, ap length e.1 ∙ i.2, omega arith)

pub invariant_of-self-2 : goal.invariant_of-self-2
invariant_of-self-2 c =
    let i = c.self.invariant in
    let j = c.in_ok-rest.ensures.share in
    let e = lent_gives c.self.inside.head c.replace_with.new.dest c.replace_with-part.new.dest
    c.replace_with-part.result c.replace_with.ensures c.replace_with-part.ensures in
    let s = ap size_of j.1 ∙ size_of-kept c.self.inside.rest in
    (i.0, i.1, ap length e.0 ∙ i.2, omega arith)

pub returns-clause-marks : goal.returns-clause-marks
returns-clause-marks c = λ bs m.
    let h = c.self.inside.head in
    let a = gives_sums (every bs) m h c.replace_with.new.dest c.replace_with-part.new.dest c.replace_with-part.result
    c.replace_with.ensures c.replace_with-part.ensures in
    let l = lent_marks bs m h c.replace_with.new.dest c.replace_with.ensures in
    let s = c.in_ok-rest.ensures.sums (every bs) m in
    let u = ap (λ (z : SkbState). pieces_held (every bs) m z.rest) c.self.view_is in
    let v = ap (λ (z : SkbState). (of_holder z.head).held (every bs) m) c.self.view_is in
    let w = ap (λ (z : SkbState). (of_holder z.head).homes bs m) c.self.view_is in
    omega arith

pub returns-clause-sums : goal.returns-clause-sums
returns-clause-sums c = λ e t m.
    let h = c.self.inside.head in
    let p : is_sole h ≡ false = subst (λ (z : SkbState). is_sole z.head ≡ false) (sym c.self.view_is) e in
    let a = gives_sums t m h c.replace_with.new.dest c.replace_with-part.new.dest c.replace_with-part.result
    c.replace_with.ensures c.replace_with-part.ensures in
    let l = lent_held t m h c.replace_with.new.dest p c.replace_with.ensures in
    let s = c.in_ok-rest.ensures.sums t m in
    let u = ap (λ (z : SkbState). pieces_held t m z.rest) c.self.view_is in
    let v = ap (λ (z : SkbState). (of_holder z.head).held t m) c.self.view_is in
    omega arith
