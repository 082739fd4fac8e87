use Rattle.std.proofs.Common.{refl, rules}
use Rattle.pcap_io.specs.declared.heads.Link.TheVariants.{Ethernet, Offload}
use Rattle.offload_model.specs.Passing.{segmenting}
use Rattle.command_answers.specs.Ending.{ending_of}
use Rattle.segmenting.specs.Segmenting.{records_need}
use Rattle.command_answers.proofs.Behind.{no_file, head_failed, whole_given}
use Rattle.command_answers.proofs.Prefixes.{no_file_prefix, head_failed_prefix, whole_prefix}
use Rattle.segment_command.proofs.Used.{segmented_whole}
use Rattle.segment_command.proofs.segment.run_segment.Goals as goal

pub returns-in-Err-clause-answered : goal.returns-in-Err-clause-answered
returns-in-Err-clause-answered g c =
    let passing = segmenting c.args.options.blocks in
    let told = c.in-Err.ensures.given in
    record {
      given = no_file Offload Ethernet passing _ _ _ (g.K.Sink.is_flushed c.args.sink.now) c.args.sink.now c.args.sink.now c.in-Err.fault c.refused.result refl c.refused.ensures.status told;
      prefix = no_file_prefix Offload Ethernet passing _ _ _ _ c.in-Err.fault told;
      made = tt;
      blocks = search rules;
      flows = search rules;
    }

pub returns-in-Err-write_file_head-clause-answered : goal.returns-in-Err-write_file_head-clause-answered
returns-in-Err-write_file_head-clause-answered g c =
    let passing = segmenting c.args.options.blocks in
    let told = c.in-Ok.ensures.given in
    let failed = c.in-Err-write_file_head.ensures.err in
    record {
      given = head_failed Offload Ethernet passing _ _ _ _ (g.K.Sink.is_flushed c.write_file_head.new.sink) c.args.sink.now c.write_file_head.new.sink c.in-Ok.file failed told;
      prefix = head_failed_prefix Offload Ethernet passing _ _ _ _ _ c.in-Ok.file failed told;
      made = tt;
      blocks = search rules;
      flows = search rules;
    }

pub returns-in-Ok-write_file_head-clause-answered : goal.returns-in-Ok-write_file_head-clause-answered
returns-in-Ok-write_file_head-clause-answered g c =
    let passing = segmenting c.args.options.blocks in
    let told = c.in-Ok.ensures.given in
    let wrote = c.in-Ok-write_file_head.ensures.ok in
    let r = c.segment_records.ensures in
    record {
      given = whole_given Offload Ethernet passing _ _ _ _ _ _ (g.K.Sink.is_flushed c.segment_records.new.sink) c.args.sink.now c.segment_records.new.sink
          c.in-Ok.file (ending_of c.segment_records.result) told wrote r.given r.flushed;
      prefix = whole_prefix Offload Ethernet passing _ _ _ _ _ _ _ _ c.in-Ok.file (λ never. never) told wrote r.prefix;
      made = tt;
      blocks = r.blocks;
      flows = search rules;
    }

pub returns-in-Ok-write_file_head-clause-left : goal.returns-in-Ok-write_file_head-clause-left
returns-in-Ok-write_file_head-clause-left g c =
    let r = c.segment_records.ensures in
    record {
      engine = λ ok. segmented_whole Offload records_need c.args.options.blocks _ _ _ _ c.in-Ok.file c.in-Ok.ensures.given (r.engine ok);
      home = r.home;
    }
