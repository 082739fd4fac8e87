use Rattle.offload_model.proofs.Tunnels.{tunnels_are_one}
use Rattle.offload_model.proofs.runs.tunnels_are_one.Goals as goal

pub returns : goal.returns
returns c = record { law = tunnels_are_one }
