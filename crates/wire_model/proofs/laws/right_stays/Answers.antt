use Rattle.wire_model.proofs.Rights.{right_stays}
use Rattle.wire_model.proofs.laws.right_stays.Goals as goal

pub returns : goal.returns
returns c = record { law = right_stays }
