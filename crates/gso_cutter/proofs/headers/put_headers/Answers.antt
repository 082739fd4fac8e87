use Rattle.std.proofs.Common.{◌≡◌, ◌++◌, ◌∙◌, ℕ, List, length, take, ap, sym}
use Rattle.std.proofs.lemmas.List.{length-take-le}
use Rattle.segment_rule.specs.Segmentations.{segment_from}
use Rattle.skb.proofs.Fronts.{front_long, front_is}
use Rattle.gso_cutter.proofs.headers.put_headers.Goals as goal

pub returns-clause-size : goal.returns-clause-size
returns-clause-size c =
    let old : List ℕ = c.copy_from_slice.new.self in
    let at : ℕ = c.args.cut.now.layout.payload_at in
    let is : old ≡ take at c.args.head.now = c.copy_from_slice.ensures.after ∙ ap (λ (z : ℕ). take z c.args.head.now) c.payload_at-at.ensures.place in
    let long : length old ≡ at = ap length is ∙ length-take-le at c.args.head.now c.requires.inside in
    front_long c.args.block.now.bytes c.put_headers.new.head at (sym (ap length c.bytes.ensures.value) ∙ c.bytes.ensures.size) (c.put_headers.auto.head ∙ long) c.requires.low

pub returns-clause-segment : goal.returns-clause-segment
returns-clause-segment c = λ bytes sum.
    let w = c.put_headers.new.head in
    let old : List ℕ = c.copy_from_slice.new.self in
    let at : ℕ = c.args.cut.now.layout.payload_at in
    let is : old ≡ take at c.args.head.now = c.copy_from_slice.ensures.after ∙ ap (λ (z : ℕ). take z c.args.head.now) c.payload_at-at.ensures.place in
    let long : length old ≡ at = ap length is ∙ length-take-le at c.args.head.now c.requires.inside in
    ap (λ (z : List ℕ). z ++ bytes) (front_is c.args.block.now.bytes w at (sym (ap length c.bytes.ensures.value) ∙ c.bytes.ensures.size) (c.put_headers.auto.head ∙ long) c.requires.low)
    ∙ c.put_headers.ensures.segment bytes sum
    ∙ ap (λ (z : List ℕ). segment_from c.args.cut.now c.args.i (z ++ bytes)) is
