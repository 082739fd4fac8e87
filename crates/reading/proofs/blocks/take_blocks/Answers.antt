use Rattle.std.proofs.Common.{length, arith, ap, refl, subst, sym, [], ◌∷◌, length-append}
use Rattle.block_pool.specs.PoolState.{weighed}
use Rattle.reading.specs.Laid.{MarkedFrom}
use Rattle.reading.proofs.Laying.{marked_last, weighed_last}
use Rattle.reading.proofs.blocks.take_blocks.Goals as goal

pub loop-i-init : goal.loop-i-init
loop-i-init c = record {
  marks = subst (MarkedFrom c.args.first) (sym c.requires.empty) tt;
  count = ap length c.requires.empty;
  home = omega arith;
  named = λ h. omega (arith, ap (weighed h) c.requires.empty);
  made = refl;
  taken = omega arith;
  capacity = refl;
}

pub loop-i-preserved : goal.loop-i-preserved
loop-i-preserved c =
    let l = c.loop-i in
    let i = l.invariant in
    let t = c.take_block-block in
    let e = c.push_back_reserved.ensures.items in
    record {
      marks = subst (MarkedFrom c.args.first) (sym e) (marked_last c.args.first l.hold.items t.result i.marks (omega (arith, t.ensures.mark, i.count)));
      count = omega (arith, ap length e, length-append l.hold.items (t.result ∷ []), i.count);
      home = omega (arith, i.home, t.ensures.home);
      named = λ h. omega (arith, i.named h, t.ensures.named h, ap (weighed h) e, weighed_last h l.hold.items t.result);
      made = omega (arith, i.made, t.ensures.made);
      taken = omega (arith, i.taken, t.ensures.taken);
      capacity = omega (arith, i.capacity, c.push_back_reserved.ensures.capacity);
    }
