use Rattle.frame_runs.proofs.Flowing.{flows_none}
use Rattle.frame_runs.proofs.flows.Flows.new.Goals as goal

pub returns-clause-flows : goal.returns-clause-flows
returns-clause-flows c = λ ps. flows_none ps _ c.new.ensures.empty c.new-2.ensures.empty
