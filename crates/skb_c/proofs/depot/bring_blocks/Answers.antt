use Rattle.std.proofs.Common.{◌≤◌, length, refl, ap, ◌∙◌, arith}
use Rattle.std.specs.List.{sum_by}
use Rattle.skb_c.proofs.Coming.{one_home, one_fits, one_freed, one_counts, none_freed}
use Rattle.skb_c.proofs.depot.bring_blocks.Goals as goal

pub loop-sole-init : goal.loop-sole-init
loop-sole-init c = record {
  receipts = refl;
  room = omega (arith, c.home.ensures.home, c.home.ensures.within);
  places = refl;
  count = refl;
  blocks = λ fits h. (fits, refl);
}

pub loop-sole-preserved-then-home-made : goal.loop-sole-preserved-then-home-made
loop-sole-preserved-then-home-made c =
    let i = c.loop-sole.invariant in
    let b = c.loop-sole.pool.blocks in
    let s = c.loop-sole.out.soles in
    let t = c.pop_sole.new.self.soles in
    let made = c.args.pool.now.made in
    let x = c.in-Some.sole in
    let q = c.put.new.self.blocks in
    let put = ap (λ (p : _). p.blocks) c.put.ensures.home in
    record {
      receipts = c.pop_sole.ensures.receipts ∙ i.receipts;
      room = one_fits made 0 b q s t x c.in-Some.ensures.soles put (omega (arith, c.if-home-made.true, c.home-in-Some.ensures.home, c.made.ensures.made, i.places));
      places = ap (λ (p : _). p.made) c.put.ensures.home ∙ i.places;
      count = one_home made _ b q s t x c.in-Some.ensures.soles put i.count;
      blocks = λ fits h. one_counts made _ b q s t x c.in-Some.ensures.soles put h (i.blocks fits h);
    }

pub loop-sole-preserved : goal.loop-sole-preserved
loop-sole-preserved c =
    let i = c.loop-sole.invariant in
    let b = c.loop-sole.pool.blocks in
    let s = c.loop-sole.out.soles in
    let t = c.pop_sole.new.self.soles in
    let made = c.args.pool.now.made in
    let x = c.in-Some.sole in
    let full : made ≤ length b = omega (arith, c.if-home-made.false, c.home-in-Some.ensures.home, c.made.ensures.made, i.places) in
    record {
      receipts = c.pop_sole.ensures.receipts ∙ i.receipts;
      room = i.room;
      places = i.places;
      count = one_freed made _ b b s t x c.in-Some.ensures.soles full i.count;
      blocks = λ fits h. none_freed made 0 b b s t x c.in-Some.ensures.soles full (i.blocks fits h).0;
    }

pub returns-clause-home : goal.returns-clause-home
returns-clause-home c =
    let i = c.loop-sole.invariant in
    let none = c.in_default.ensures.soles in
    record {
      places = i.places;
      count = omega (arith, i.count, i.room, ap length none.0);
      blocks = λ fits h. omega (arith, (i.blocks fits h).1, ap (sum_by h) none.0);
    }
