use Rattle.frame_runs.proofs.Flowing.{flows_none}
use Rattle.frame_runs.proofs.flows.Flows.clear.Goals as goal

pub returns-clause-flows : goal.returns-clause-flows
returns-clause-flows c = λ ps. flows_none ps _ c.clear.ensures.empty c.clear_keys.ensures.none
