use Rattle.check_totals.proofs.Summing.{lanes_stay}
use Rattle.check_totals.proofs.laws.lanes_stay.Goals as goal

pub returns : goal.returns
returns c = record { law = lanes_stay }
