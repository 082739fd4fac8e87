use Rattle.check_totals.proofs.Tallying.{totals_are_told}
use Rattle.check_totals.proofs.laws.totals_are_told.Goals as goal

pub returns : goal.returns
returns c = record { law = totals_are_told }
