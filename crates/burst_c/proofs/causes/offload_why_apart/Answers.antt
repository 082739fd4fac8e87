use Rattle.std.proofs.Common.{◌≡◌, sym, ap, ◌∙◌, refl, arith}
use Rattle.frame_causes.specs.declared.pair.PairCause.{PairCause}
use Rattle.frame_causes.specs.declared.pair.PairCause.TheVariants as pair
use Rattle.burst_c.specs.Causes.{pair_number_of}
use Rattle.burst_c.proofs.causes.offload_why_apart.Goals as goal

none_of_zero : (x : PairCause) → pair_number_of x ≡ 0 → x ≡ pair.Mergeable
none_of_zero pair.Mergeable e = refl
none_of_zero pair.First e = absurd (omega (arith, e))
none_of_zero pair.Second e = absurd (omega (arith, e))
none_of_zero pair.Flow e = absurd (omega (arith, e))
none_of_zero pair.Headers e = absurd (omega (arith, e))
none_of_zero pair.UdpSum e = absurd (omega (arith, e))
none_of_zero pair.Longer e = absurd (omega (arith, e))
none_of_zero pair.Flags e = absurd (omega (arith, e))
none_of_zero pair.Sequence e = absurd (omega (arith, e))
none_of_zero pair.Identification e = absurd (omega (arith, e))
none_of_zero pair.TooLong e = absurd (omega (arith, e))

pub returns-clause-mergeable : goal.returns-clause-mergeable
returns-clause-mergeable c =
    let number = c.pair_number_of.ensures.number in
    let both = c.why_apart.ensures.mergeable in
    (λ e. both.0 (none_of_zero c.why_apart.result (sym number ∙ e)), λ m. number ∙ ap pair_number_of (both.1 m))
