use Rattle.std.proofs.Common.{◌≡◌, ◌*◌, length, take, drop, get_or, ap, subst, arith}
use Rattle.inet_sum.specs.Stands.{FoldAndLength, StandsFor}
use Rattle.gso.proofs.Chunks.{sum_at, last_is}
use Rattle.gso.proofs.sums.Sums.part.Goals as goal

pub returns-then-at-parts : goal.returns-then-at-parts
returns-then-at-parts c = record {
  part = λ f h short.
      let s = c.args.self.now in
      let v = c.as_slice-parts.ensures.value in
      let r : FoldAndLength = c.index-parts-at.result in
      let is : get_or s.parts.items c.args.i r ≡ r = cc (v, c.index-parts-at.is) in
      subst (λ (z : FoldAndLength). StandsFor z (take c.args.m (drop (c.args.i * c.args.m) f))) is
      (sum_at c.args.m s.parts.items s.rest r c.args.i f h (omega (arith, ap length v, c.if-at-parts.true)));
}

pub returns-then-is_last : goal.returns-then-is_last
returns-then-is_last c = record {
  part = λ f h short.
      let s = c.args.self.now in
      last_is c.args.m s.parts.items s.rest c.args.i f (omega (arith, ap length c.as_slice-parts.ensures.value, c.if-at-parts-2.true)) h (short c.if-is_last.true);
}
