use Rattle.offload_model.proofs.Passings.{prefixes_are_written}
use Rattle.offload_model.proofs.passing.prefixes_are_written.Goals as goal

pub returns : goal.returns
returns c = record { law = prefixes_are_written }
