use Rattle.pcap_io.specs.declared.heads.Link.TheVariants.{Offload}
use Rattle.pcap_io.specs.Places.{first_place}
use Rattle.offload_model.specs.Passing.{segmenting}
use Rattle.command_answers.specs.Ending.{ending_of}
use Rattle.command_answers.proofs.Prefixes.{nothing_prefix}
use Rattle.segment_command.proofs.Prefixes.{segmented_prefix}
use Rattle.segment_command.proofs.segment.segment_records.Goals as goal

pub returns-in-Err-clause-prefix : goal.returns-in-Err-clause-prefix
returns-in-Err-clause-prefix g c = nothing_prefix _ (segmenting c.args.blocks (first_place c.args.file Offload 0)) _ _

pub returns-clause-prefix : goal.returns-clause-prefix
returns-clause-prefix g c =
    segmented_prefix c.segments_grow.ensures.law _ c.args.blocks (first_place c.args.file Offload 0) _ _ _ _ (ending_of c.segment_behind-status.result) c.segment_behind-status.ensures.segmented.given
