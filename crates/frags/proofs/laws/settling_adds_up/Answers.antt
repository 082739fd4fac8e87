use Rattle.frags.proofs.Settling.{settling_adds_up}
use Rattle.frags.proofs.laws.settling_adds_up.Goals as goal

pub returns : goal.returns
returns c = record { law = settling_adds_up }
