use Rattle.wire_model.proofs.Cutting.{cut_is_mergeable}
use Rattle.wire_model.proofs.laws.cut_is_mergeable.Goals as goal

pub returns : goal.returns
returns c = record { law = cut_is_mergeable }
