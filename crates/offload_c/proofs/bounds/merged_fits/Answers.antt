use Rattle.offload_c.proofs.MergedBound.{merged_fits}
use Rattle.offload_c.proofs.bounds.merged_fits.Goals as goal

pub returns : goal.returns
returns c = record { law = merged_fits }
