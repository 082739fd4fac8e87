use Rattle.std.proofs.lemmas.Bool.{false≢true}
use Rattle.std.proofs.Common.{◌+◌, ◌-◌, ◌^◌, min, ap, arith, length, refl, rules, ◌∙◌, subst}
use Rattle.block_supply.proofs.Listing.{home_by_ones}
use Rattle.block_pool.specs.PoolState.{home, weighed}
use Rattle.rounds.specs.RoundOf.{brought_by, Came}
use Rattle.rounds.specs.RoundsState.{IntakeState}
use Rattle.rounds.proofs.Pausing.{came_then}
use Rattle.rounds.proofs.intake.Intake.bring_rest.Goals as goal

pub returns-then-has_ended-clause-came : goal.returns-then-has_ended-clause-came
returns-then-has_ended-clause-came g c = c.loop.invariant.came

pub returns-then-home-rest-clause-came : goal.returns-then-home-rest-clause-came
returns-then-home-rest-clause-came g c = c.loop.invariant.came

pub returns-then-has_ended-clause-all : goal.returns-then-has_ended-clause-all
returns-then-has_ended-clause-all g c = λ e. absurd (false≢true e)

pub loop-init : goal.loop-init
loop-init g c =
    let v = c.self.view_is in
    let from = brought_by g.H.Supply.weights g.H.Supply.refusals c.args.more.now in
    let pool = c.self.inside.pool in
    let same : Came from from (home pool) (home pool) (λ h. weighed h pool.blocks) (λ h. weighed h pool.blocks) = record { sum = refl; named = λ h. refl; asked = omega arith } in
    record {
      came = subst (λ (s : IntakeState). Came from from (length s.stock) (home pool) (λ h. weighed h s.stock) (λ h. weighed h pool.blocks)) v same;
      blocks = ap (λ (s : IntakeState). s.blocks) v;
      taken = ap (λ (s : IntakeState). s.taken) v;
      budget = ap (λ (s : IntakeState). s.budget) v;
      empties = ap (λ (s : IntakeState). s.empties) v;
      pauses = c.saturating_add-self-inside.ensures ∙ ap (λ (s : IntakeState). min (s.pauses + 1) (2 ^ 64 - 1)) v;
      later = search rules;
    }

pub loop-preserved : goal.loop-preserved
loop-preserved g c =
    let i = c.loop.invariant in
    let b = c.bring-came in
    let v = c.self-in-loop.view_is in
    let from = brought_by g.H.Supply.weights g.H.Supply.refusals c.loop.more in
    let to = brought_by g.H.Supply.weights g.H.Supply.refusals b.new.self in
    let step : Came from to (home c.self-in-loop.inside.pool) (home b.new.pool) (λ h. weighed h c.self-in-loop.inside.pool.blocks) (λ h. weighed h b.new.pool.blocks) =
    record { sum = home_by_ones _ _ c.self-in-loop.inside.pool.blocks b.new.pool.blocks (b.ensures.named (λ _. 1)); named = b.ensures.named; asked = b.ensures.asked } in
    record {
      came = came_then _ _ _ _ _ _ _ _ _ i.came (subst (λ (s : IntakeState). Came from to (length s.stock) (home b.new.pool) (λ h. weighed h s.stock) (λ h. weighed h b.new.pool.blocks)) v step);
      blocks = b.ensures.same.0 ∙ ap (λ (s : IntakeState). s.blocks) v ∙ i.blocks;
      taken = b.ensures.same.1 ∙ ap (λ (s : IntakeState). s.taken) v ∙ i.taken;
      budget = ap (λ (s : IntakeState). s.budget) v ∙ i.budget;
      empties = ap (λ (s : IntakeState). s.empties) v ∙ i.empties;
      pauses = ap (λ (s : IntakeState). s.pauses) v ∙ i.pauses;
      later = omega (arith, i.later, ap (λ (s : IntakeState). s.pauses) v);
    }
