use Rattle.offload_model.proofs.Within.{limits_are_bounds}
use Rattle.offload_model.proofs.runs.limits_bound_frames.Goals as goal

pub returns : goal.returns
returns c = record { law = limits_are_bounds }
