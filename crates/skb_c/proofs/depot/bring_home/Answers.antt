use Rattle.std.proofs.Common.{ℕ, ◌<◌, sym, subst, ◌∙◌}
use Rattle.block_weight.specs.WeightRule.{full_weight}
use Rattle.skb_c.specs.Home.{AreLight}
use Rattle.skb_c.proofs.Coming.{one_light}
use Rattle.skb_c.proofs.depot.bring_home.Goals as goal

pub loop-receipt-init : goal.loop-receipt-init
loop-receipt-init c = record {
  none = c.bring_blocks.ensures.none.0;
  light = λ all. subst AreLight c.bring_blocks.ensures.none.1 all;
}

pub loop-receipt-preserved : goal.loop-receipt-preserved
loop-receipt-preserved c =
    let i = c.loop-receipt.invariant in
    let e = c.in-Some.ensures.receipts in
    let r = c.in-Some.receipt in
    let light : r.weight < full_weight = subst (λ (n : ℕ). n < full_weight) c.weight.ensures.value c.weight.ensures.range.1 in
    record {
      none = c.pop_receipt.ensures.soles ∙ i.none;
      light = λ all. i.light (subst AreLight (sym e) (one_light c.pop_receipt.new.self.receipts r all light));
    }

pub returns-clause-light : goal.returns-clause-light
returns-clause-light c = c.loop-receipt.invariant.light (subst AreLight (sym c.in_default.ensures.receipts.0) tt)
