use Rattle.offload_model.proofs.Passings.{stops_write_prefixes}
use Rattle.offload_model.proofs.passing.stops_write_prefixes.Goals as goal

pub returns : goal.returns
returns c = record { law = stops_write_prefixes }
