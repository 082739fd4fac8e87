use Rattle.std.proofs.Common.{subst}
use Rattle.offload_model.specs.Passing.{merging_whole}
use Rattle.lanes.specs.Work.{options_by}
use Rattle.lanes.specs.declared.plan.LanePlan.{LanePlan}
use Rattle.offload_c.specs.Answers.{Gives, FlowsOf}
use Rattle.offload_c.proofs.merging.merge_by.Goals as goal

pub returns-in-Ok-clause-gives : goal.returns-in-Ok-clause-gives
returns-in-Ok-clause-gives c =
    let o = c.args.options.now in
    subst (λ (plan : LanePlan). Gives (merging_whole o.blocks (options_by plan o.budget) c.args.capture.now) c.merge_bytes.result) c.in-Ok.ensures.plan c.merge_bytes.ensures.gives

pub returns-in-Ok-clause-flows : goal.returns-in-Ok-clause-flows
returns-in-Ok-clause-flows c =
    subst (λ (plan : LanePlan). FlowsOf plan.taps c.args.capture.now c.merge_bytes.result) c.in-Ok.ensures.plan c.merge_bytes.ensures.flows
