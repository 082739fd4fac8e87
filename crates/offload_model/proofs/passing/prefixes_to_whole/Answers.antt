use Rattle.offload_model.proofs.Passings.{prefixes_to_whole}
use Rattle.offload_model.proofs.passing.prefixes_to_whole.Goals as goal

pub returns : goal.returns
returns c = record { law = prefixes_to_whole }
