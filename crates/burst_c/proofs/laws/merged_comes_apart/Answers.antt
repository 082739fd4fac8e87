use Rattle.burst_c.proofs.Inverse.{merged_comes_apart}
use Rattle.burst_c.proofs.laws.merged_comes_apart.Goals as goal

pub returns : goal.returns
returns c = record { law = merged_comes_apart }
