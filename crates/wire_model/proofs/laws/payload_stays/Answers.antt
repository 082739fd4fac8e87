use Rattle.wire_model.proofs.Cutting.{payload_stays}
use Rattle.wire_model.proofs.laws.payload_stays.Goals as goal

pub returns : goal.returns
returns c = record { law = payload_stays }
