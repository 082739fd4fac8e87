use Rattle.offload_model.proofs.RunRecords.{boundaries_are_kept}
use Rattle.offload_model.proofs.captures.boundaries_are_kept.Goals as goal

pub returns : goal.returns
returns c = record { law = boundaries_are_kept }
