use Rattle.check_totals.proofs.Bounds.{totals_are_few}
use Rattle.check_totals.proofs.laws.totals_are_few.Goals as goal

pub returns : goal.returns
returns c = record { law = totals_are_few }
