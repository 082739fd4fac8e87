use Rattle.offload_model.proofs.Steps.{prefixes_pass_on}
use Rattle.offload_model.proofs.passing.prefixes_pass_on.Goals as goal

pub returns : goal.returns
returns c = record { law = prefixes_pass_on }
