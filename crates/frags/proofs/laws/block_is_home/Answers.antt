use Rattle.frags.proofs.Settling.{block_is_home}
use Rattle.frags.proofs.laws.block_is_home.Goals as goal

pub returns : goal.returns
returns c = record { law = block_is_home }
