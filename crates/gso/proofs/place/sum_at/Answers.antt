use Rattle.std.proofs.Common.{◌≡◌, ℕ, [], refl, subst, arith, length-append, ap, length}
use Rattle.gso.specs.Places.{bytes_at}
use Rattle.gso.proofs.Places.{IsSummedTo, summed_more, summed_all}
use Rattle.gso.proofs.place.sum_at.Goals as goal

pub loop-left-init : goal.loop-left-init
loop-left-init c = record {
  place = c.requires.place;
  within = c.requires.there;
  summed = record { done = []; stands = c.new-sum.ensures.sum; whole = refl; count = omega arith };
}

pub add-requires : goal.add-requires
add-requires c =
    let i = c.loop-left.invariant in
    record { few = omega (arith, i.summed.stands.1, i.summed.count, c.read-bytes.ensures.most, c.requires.few) }

pub loop-left-preserved : goal.loop-left-preserved
loop-left-preserved c =
    let i = c.loop-left.invariant in
    let r = c.read-bytes in
    record {
      place = r.ensures.place;
      within = omega (arith, i.within, i.place.left, r.ensures.place.left, ap length r.ensures.bytes, length-append r.result.now (bytes_at c.args.skb.now r.new.self));
      summed = summed_more c.args.skb.now c.args.from c.args.n c.loop-left.left c.loop-left.place r.new.self c.loop-left.sum c.add.new.self r.result.now i.summed r.ensures.bytes r.ensures.most
          (c.add.ensures.sum i.summed.done i.summed.stands);
    }

pub returns : goal.returns
returns c =
    let l = c.loop-left in
    let zero_left : l.left ≡ 0 = omega (arith, c.loop-left-test.false) in
    record {
      sum = summed_all c.args.skb.now c.args.from c.args.n l.place l.sum (subst (λ (z : ℕ). IsSummedTo c.args.skb.now c.args.from c.args.n z l.place l.sum) zero_left l.invariant.summed);
    }
