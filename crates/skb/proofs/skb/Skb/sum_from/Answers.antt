use Rattle.std.proofs.Common.{[], ◌-◌, ◌≤◌, length, drop, sym, ap, subst, arith, ◌∙◌}
use Rattle.inet_sum.specs.Stands.{StandsFor}
use Rattle.frags.specs.PieceList.{size_of}
use Rattle.skb.specs.SkbState.{buffer_bytes, head_size}
use Rattle.skb.specs.Checksum.{AreBytes}
use Rattle.skb.proofs.Summing.{all_behind, summed_all, summed_len, summed_front, summed_more, summed_few}
use Rattle.skb.proofs.skb.Skb.sum_from.Goals as goal

pub loop-i-init : goal.loop-i-init
loop-i-init c =
    let e = all_behind c.head.result.now c.args.at ∙ ap (drop c.args.at) c.head.ensures.bytes in
    record {
      summed = summed_front c.args.self.now c.args.at c.add.new.sum (omega (
        arith,
        c.requires.inside,
        c.head.ensures.size,
        ap length c.head.ensures.bytes,
      ))
          (subst (StandsFor c.add.new.sum) e (c.add.ensures.sum [] c.new-sum.ensures.sum)) (subst AreBytes e
          c.add.ensures.in_bytes);
    }

pub add-requires-in-loop-i : goal.add-requires-in-loop-i
add-requires-in-loop-i c = record {
  few = summed_few c.args.self.now c.args.at c.loop-i.i c.loop-i.sum
      c.slice.result.now (omega (arith, c.count-i-end.ensures.value, c.loop-i-test.true)) c.loop-i.invariant.summed
      c.slice.ensures.bytes (omega (arith, c.len.ensures.bytes, c.len.ensures.small));
}

pub loop-i-preserved : goal.loop-i-preserved
loop-i-preserved c =
    let i = c.loop-i.invariant in
    record {
      summed = summed_more c.args.self.now c.args.at c.loop-i.i c.loop-i.sum
          c.slice.result.now (omega (arith, c.count-i-end.ensures.value, c.loop-i-test.true)) i.summed
          c.slice.ensures.bytes c.add-in-loop-i.new.sum
          (c.add-in-loop-i.ensures.sum i.summed.done i.summed.stands) c.add-in-loop-i.ensures.in_bytes;
    }

pub returns : goal.returns
returns c =
    let s = c.args.self.now in
    let at = c.args.at in
    let sum = c.loop-i.sum in
    let is = c.loop-i.invariant.summed in
    let end : length s.rest ≤ c.loop-i.i = omega (arith, c.count-i-end.ensures.value, c.loop-i-test.false) in
    let all = summed_all s at c.loop-i.i sum is end in
    record {
      sum = subst (StandsFor sum) all is.stands;
      len = summed_len (buffer_bytes s) is.done at sum.len (head_size s) (size_of s.rest) all is.stands.1
          c.requires.inside (sym c.len.ensures.size ∙ c.len.ensures.bytes);
      in_bytes = subst AreBytes all is.in_bytes;
    }
