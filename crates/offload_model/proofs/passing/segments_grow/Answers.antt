use Rattle.offload_model.proofs.Growing.{segments_grow}
use Rattle.offload_model.proofs.passing.segments_grow.Goals as goal

pub returns : goal.returns
returns c = record { law = segments_grow }
