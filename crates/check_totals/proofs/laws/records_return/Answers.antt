use Rattle.check_totals.proofs.Returning.{records_return}
use Rattle.check_totals.proofs.laws.records_return.Goals as goal

pub returns : goal.returns
returns c = record { law = records_return }
