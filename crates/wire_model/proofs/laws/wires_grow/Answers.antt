use Rattle.wire_model.proofs.Growing.{wires_grow}
use Rattle.wire_model.proofs.laws.wires_grow.Goals as goal

pub returns : goal.returns
returns c = record { law = wires_grow }
