use Rattle.check_totals.proofs.Tallying.{counting_goes_by_round}
use Rattle.check_totals.proofs.laws.counting_goes_by_round.Goals as goal

pub returns : goal.returns
returns c = record { law = counting_goes_by_round }
