use Rattle.wire_model.proofs.Passing.{wiring_goes_by_record}
use Rattle.wire_model.proofs.laws.wiring_goes_by_record.Goals as goal

pub returns : goal.returns
returns c = record { law = wiring_goes_by_record }
