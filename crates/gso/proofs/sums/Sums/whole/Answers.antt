use Rattle.std.proofs.Common.{◌≡◌, ◌<◌, ℕ, length, get_or, ap, subst, arith}
use Rattle.inet_sum.specs.Stands.{FoldAndLength, StandsFor}
use Rattle.gso.proofs.Chunks.{joining_step}
use Rattle.gso.proofs.sums.Sums.whole.Goals as goal

pub loop-part-preserved : goal.loop-part-preserved
loop-part-preserved c = λ f h.
    let s = c.args.self.now in
    let i : ℕ = c.loop-part.part-index in
    let v = c.as_slice-part-items.ensures.value in
    let r : FoldAndLength = c.part-item.result in
    let is : get_or s.parts.items i r ≡ r = cc (v, c.part-item.is) in
    let less : i < length s.parts.items = omega (arith, ap length v, c.loop-part-test.true) in
    joining_step c.args.m s.parts.items s.rest r i c.loop-part.all c.joined-all.result f less
    (λ front back a b. c.joined-all.ensures.sum front back a (subst (λ (z : FoldAndLength). StandsFor z back) is b)) (c.loop-part.invariant f h)
