use Rattle.frame_runs.proofs.Flowing.{flows_none}
use Rattle.frame_runs.proofs.flows.Flows.with_capacity.Goals as goal

pub returns-clause-flows : goal.returns-clause-flows
returns-clause-flows c = λ ps. flows_none ps _ c.in_ok-groups.ensures.empty c.in_ok-keys.ensures.empty
