use Rattle.std.proofs.Common.{◌≡◌, sym, subst}
use Rattle.std.specs.Prelude.{IfOk}
use Rattle.lanes.specs.declared.plan.LanePlan.{LanePlan}
use Rattle.lanes.specs.Work.{IsPlan, options_by}
use Rattle.rounds.specs.Lanes.{IsKeptWorkOf}
use Rattle.check_totals.specs.Counts.{Counts, round_totals}
use Rattle.checking.proofs.round_check.check_bench.Goals as goal

pub check_worked-requires-clause-plan : goal.check_worked-requires-clause-plan
check_worked-requires-clause-plan c = subst IsPlan (sym c.plan.ensures.plan) c.plan.ensures.lawful

pub returns-clause-totals : goal.returns-clause-totals
returns-clause-totals c = λ ps kept.
    let budget = c.args.bench.now.budget in
    subst (λ (p : LanePlan). IfOk c.check_worked.result (λ (t : Counts). t ≡ round_totals (options_by p budget) ps)) c.plan.ensures.plan
    (c.check_worked.ensures.totals budget ps (subst (λ (p : LanePlan). IsKeptWorkOf (options_by p budget) ps c.args.worked.now) (sym c.plan.ensures.plan) kept))
