use Rattle.wire_model.proofs.Rights.{filled_is_captured}
use Rattle.wire_model.proofs.laws.filled_is_captured.Goals as goal

pub returns : goal.returns
returns c = record { law = filled_is_captured }
