use Rattle.wire_model.proofs.Rights.{all_are_filled}
use Rattle.wire_model.proofs.laws.all_are_filled.Goals as goal

pub returns : goal.returns
returns c = record { law = all_are_filled }
