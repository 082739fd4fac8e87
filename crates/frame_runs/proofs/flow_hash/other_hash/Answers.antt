use Rattle.std.proofs.Common.{ap, ◌∙◌}
use Rattle.frame_runs.specs.Flows.{hash_of}
use Rattle.frame_runs.proofs.flow_hash.other_hash.Goals as goal

pub returns : goal.returns
returns c = record { hash = λ f o. c.key_hash.ensures.hash ∙ ap hash_of (c.key_behind-key.ensures.key f o) }
