use Rattle.std.proofs.Common.{◌∙◌}
use Rattle.check_totals.proofs.Summing.{same_counts, made_of}
use Rattle.check_totals.proofs.totals.Totals.make.Goals as goal

pub returns : goal.returns
returns c = record {
  made = λ options qs ts.
      same_counts _ _ _ _ (c.in_ok-vec.ensures.items_if_clones_equal (λ y e. e)) (c.in_ok-vec-2.ensures.items_if_clones_equal (λ y e. e))
      ∙ made_of options c.args.queues c.args.taps qs ts;
}
