use Rattle.std.proofs.Common.{arith}
use Rattle.lanes.specs.Work.{options_by}
use Rattle.lanes.proofs.Planned.{spread_below}
use Rattle.offload_c.proofs.Flows.{flows_of}
use Rattle.offload_c.proofs.Outcomes.{merged_gives}
use Rattle.offload_c.proofs.merging.merge_bytes.Goals as goal

pub returns-clause-gives : goal.returns-clause-gives
returns-clause-gives c =
    let run = c.merge_capture-end in
    merged_gives c.args.blocks c.args.budget c.args.plan c.in-Ok.rounds c.in-Ok-grown_sink.sink.bytes.items run.new.sink.bytes c.outcome_of.result c.args.capture.now _ run.result
    c.in-Ok.ensures.made c.in-Ok-grown_sink.ensures.empty c.outcome_of.ensures.outcome run.ensures.given

pub returns-clause-flows : goal.returns-clause-flows
returns-clause-flows c =
    let run = c.merge_capture-end in
    let plan = c.args.plan in
    let is = c.requires.plan in
    flows_of c.args.blocks (options_by plan c.args.budget) c.args.capture.now c.outcome_of.result
    (record { budget = c.requires.budget.0; some = is.0.0; queues = is.0.1; below = λ key. spread_below plan key is; taps = is.1 }) (λ k. omega (arith, c.type_inv.capture k))
    (merged_gives c.args.blocks c.args.budget plan c.in-Ok.rounds c.in-Ok-grown_sink.sink.bytes.items run.new.sink.bytes c.outcome_of.result c.args.capture.now _ run.result
    c.in-Ok.ensures.made c.in-Ok-grown_sink.ensures.empty c.outcome_of.ensures.outcome run.ensures.given)
