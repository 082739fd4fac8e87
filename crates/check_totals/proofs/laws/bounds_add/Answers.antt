use Rattle.check_totals.proofs.Bounds.{bounds_add}
use Rattle.check_totals.proofs.laws.bounds_add.Goals as goal

pub returns : goal.returns
returns c = record { law = bounds_add }
