use Rattle.check_totals.proofs.Summing.{totals_go_by_round}
use Rattle.check_totals.proofs.laws.totals_go_by_round.Goals as goal

pub returns : goal.returns
returns c = record { law = totals_go_by_round }
