use Rattle.std.proofs.Common.{◌≡◌, ◌≤◌, ◌++◌, ◌∷◌, ◌∙◌, [], ℕ, length, min, ap, arith}
use Rattle.raw_block.specs.Views.{SoleState}
use Rattle.skb.specs.Copy.{copy_need}
use Rattle.skb.proofs.Filling.{copied, copied_marks}
use Rattle.skb.proofs.skb.Skb.copy.Goals as goal

pub returns-clause-copy : goal.returns-clause-copy
returns-clause-copy c =
    let s = c.args.spares.now.items in
    let u = c.pop.new.self.items in
    let b = c.in-Some.head in
    let r = c.copy_blocks-rest in
    let n : copy_need c.args.self.now ≤ length s = omega arith in
    let e : s ≡ u ++ b ∷ [] = c.in-Some.ensures.items in
    copied c.args.self.now c.new.result s u r.new.spares.items b c.copy_into.new.block
    c.min-of_head.result r.result e (c.min-of_head.ensures ∙ ap (λ (z : ℕ). min z 1984) c.len-len.ensures.size)
    c.copy_into.ensures.copied.1 r.ensures.bytes r.ensures.count r.ensures.whole r.ensures.spares
    c.new.ensures.same n

pub returns-clause-marks : goal.returns-clause-marks
returns-clause-marks c = λ bs m.
    let s = c.args.spares.now.items in
    let u = c.pop.new.self.items in
    let b = c.in-Some.head in
    let r = c.copy_blocks-rest in
    let e : s ≡ u ++ b ∷ [] = c.in-Some.ensures.items in
    copied_marks bs m c.new.result s u r.new.spares.items b c.copy_into.new.block
    c.min-of_head.result r.result e (ap (λ (z : SoleState). z.block) c.copy_into.ensures.written)
    (ap (λ (z : SoleState). z.mark) c.copy_into.ensures.written) c.new.ensures.same (r.ensures.marks bs m)
