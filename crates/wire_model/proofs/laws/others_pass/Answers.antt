use Rattle.wire_model.proofs.Rights.{others_pass}
use Rattle.wire_model.proofs.laws.others_pass.Goals as goal

pub returns : goal.returns
returns c = record { law = others_pass }
