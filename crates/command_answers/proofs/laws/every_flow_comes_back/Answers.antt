use Rattle.command_answers.proofs.BothWays.{every_flow_comes_back}
use Rattle.command_answers.proofs.laws.every_flow_comes_back.Goals as goal

pub returns : goal.returns
returns c = record { law = every_flow_comes_back }
