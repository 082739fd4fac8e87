use Rattle.ref_core.proofs.Agreeing.{machines_agree}
use Rattle.ref_core.proofs.machines_agree.Goals as goal

pub returns : goal.returns
returns c = record { law = machines_agree }
