use Rattle.std.proofs.Common.{◌≡◌, ◌≤◌, ◌∙◌, ap, inr, refl, subst, arith}
use Rattle.std.specs.Prelude.{ℕ}
use Rattle.offload_model.specs.declared.limits.Limits.{Limits}
use Rattle.frame_bursts.specs.Links.{limits_on}
use Rattle.frame_bursts.specs.declared.burst.Refused.TheVariants.{NoMemory}
use Rattle.frame_bursts.specs.declared.link.Link.{Link}
use Rattle.frame_bursts.specs.declared.link.Link.TheVariants.{Ethernet, RawIp}
use Rattle.burst_c.proofs.kept.make_engine.Goals as goal

same_segs : (link : Link) (limits : Limits) → (limits_on link limits).segs ≡ limits.segs
same_segs Ethernet limits = refl
same_segs RawIp limits = refl

pub returns-in_default-clause-refused : goal.returns-in_default-clause-refused
returns-in_default-clause-refused c = λ none.
    let made = c.in-Ok.ensures.made in
    let numbers = made.0.numbers in
    inr (
      NoMemory,
      (
        refl,
        (
          omega (arith, numbers.0, made.1.0),
          subst (λ (z : ℕ). (1 ≤ z) × (z ≤ 4096))
              (ap (λ (z : Limits). z.segs) made.1.1.0 ∙ same_segs c.args.link c.args.limits) numbers.1,
        ),
      ),
    )
