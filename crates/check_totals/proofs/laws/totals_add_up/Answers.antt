use Rattle.check_totals.proofs.Tallying.{totals_add_up}
use Rattle.check_totals.proofs.laws.totals_add_up.Goals as goal

pub returns : goal.returns
returns c = record { law = totals_add_up }
