use Rattle.std.proofs.Common.{◌≡◌, ◌+◌, ◌-◌, take, drop, ap, ◌∙◌, arith}
use Rattle.inet_sum.specs.Sum.{fold_of}
use Rattle.frame_layout.proofs.Whole.{ip4_right}
use Rattle.frame_layout.proofs.sums.is_ip4_summed.Goals as goal

pub returns : goal.returns
returns c = record {
  summed =
      let h = c.args.head.now in
      let at = c.args.at in
      let n : at + 20 - at ≡ 20 = omega arith in
      c.is_full.ensures.full
      ∙ ip4_right h at c.unfolded.result c.requires.there
      (omega (arith, c.header_checksum-field.ensures.field, c.if-field.false, c.header_checksum-field.type_inv))
      (c.unfolded.ensures.fold ∙ ap (λ z. fold_of (take z (drop at h))) n);
}
