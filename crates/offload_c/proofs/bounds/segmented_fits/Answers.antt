use Rattle.offload_c.proofs.SegmentedBound.{segmented_fits}
use Rattle.offload_c.proofs.bounds.segmented_fits.Goals as goal

pub returns : goal.returns
returns c = record { law = segmented_fits }
