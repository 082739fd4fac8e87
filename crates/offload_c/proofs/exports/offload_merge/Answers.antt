use Rattle.std.proofs.Common.{◌∙◌, ℕ, List, sym, subst, arith}
use Rattle.offload_model.specs.Passing.{merging_whole}
use Rattle.offload_c.specs.Answers.{Gives, FlowsBack, FlowsOf}
use Rattle.offload_c.specs.Options.{model_of}
use Rattle.offload_c.specs.declared.memory.Outcome.{Outcome}
use Rattle.offload_c.proofs.MergedBound.{merged_fits}
use Rattle.offload_c.proofs.Rooms.{not_short}
use Rattle.offload_c.proofs.exports.offload_merge.Goals as goal

pub returns-in-Whole-clause-flows : goal.returns-in-Whole-clause-flows
returns-in-Whole-clause-flows c = λ ok.
    let o = c.args.options.now in
    subst (λ (xs : List ℕ). FlowsBack o.taps c.args.capture.now xs) (sym ((c.deliver.ensures.fills ok).front ∙ c.deref.ensures.value))
    (subst (λ (r : Outcome). FlowsOf o.taps c.args.capture.now r) c.in-Whole.is c.in-Ok.ensures.flows)

pub returns-in-Whole-clause-room : goal.returns-in-Whole-clause-room
returns-in-Whole-clause-room c = λ records few room.
    let o = c.args.options.now in
    let gives = subst (λ (r : Outcome). Gives (merging_whole o.blocks (model_of o) c.args.capture.now) r) c.in-Whole.is c.in-Ok.ensures.gives in
    not_short _ _ _ _ _ _ _ c.deliver.ensures.short (c.deref.ensures.value ∙ gives.1)
    (merged_fits o.blocks (model_of o) c.args.capture.now records c.in-Ok.ensures.lawful.others.numbers.budget.0 (λ k. omega (arith, c.type_inv.capture k)) few) room

pub returns-in-Refused-clause-room : goal.returns-in-Refused-clause-room
returns-in-Refused-clause-room c = λ records few room.
    let o = c.args.options.now in
    let gives = subst (λ (r : Outcome). Gives (merging_whole o.blocks (model_of o) c.args.capture.now) r) c.in-Refused.is c.in-Ok.ensures.gives in
    not_short _ _ _ _ _ _ _ c.deliver-in-Refused.ensures.short (c.deref-in-Refused.ensures.value ∙ gives.1)
    (merged_fits o.blocks (model_of o) c.args.capture.now records c.in-Ok.ensures.lawful.others.numbers.budget.0 (λ k. omega (arith, c.type_inv.capture k)) few) room

pub returns-in-Empty-clause-room : goal.returns-in-Empty-clause-room
returns-in-Empty-clause-room c = λ records few room.
    let o = c.args.options.now in
    let gives = subst (λ (r : Outcome). Gives (merging_whole o.blocks (model_of o) c.args.capture.now) r) c.in-Empty.is c.in-Ok.ensures.gives in
    not_short _ _ _ _ _ _ _ c.deliver-in-Empty.ensures.short (c.deref-in-Empty.ensures.value ∙ gives.1)
    (merged_fits o.blocks (model_of o) c.args.capture.now records c.in-Ok.ensures.lawful.others.numbers.budget.0 (λ k. omega (arith, c.type_inv.capture k)) few) room
