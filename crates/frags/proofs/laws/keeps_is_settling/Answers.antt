use Rattle.frags.proofs.Settling.{keeps_is_settling}
use Rattle.frags.proofs.laws.keeps_is_settling.Goals as goal

pub returns : goal.returns
returns c = record { law = keeps_is_settling }
