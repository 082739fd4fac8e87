use Rattle.wire_model.proofs.Cutting.{cut_comes_back}
use Rattle.wire_model.proofs.laws.cut_comes_back.Goals as goal

pub returns : goal.returns
returns c = record { law = cut_comes_back }
