use Rattle.std.proofs.Common.{refl, arith, rules}
use Rattle.pcap_io.specs.declared.heads.Link.TheVariants.{Ethernet, Offload}
use Rattle.offload_model.specs.Need.{round_need}
use Rattle.offload_model.specs.Passing.{merging}
use Rattle.command_answers.specs.Ending.{ending_of}
use Rattle.command_answers.specs.Output.{options}
use Rattle.command_answers.proofs.Behind.{no_file, head_failed, whole_given}
use Rattle.merge_command.proofs.BackAgain.{lawful_options, no_file_back, head_failed_back, whole_back}
use Rattle.command_answers.proofs.Prefixes.{no_file_prefix, head_failed_prefix, whole_prefix}
use Rattle.command_rounds.proofs.Used.{merged_whole}
use Rattle.merge_command.proofs.Leaving.{none_left_refused, none_left_unwritten}
use Rattle.merge_command.proofs.merge.run_merge.Goals as goal

pub returns-in-Err-clause-answered : goal.returns-in-Err-clause-answered
returns-in-Err-clause-answered g c =
    let o = c.args.options in
    let told = c.in-Err.ensures.given in
    let status = c.refused.ensures.status in
    record {
      given = no_file Ethernet Offload (merging o.blocks (options o)) _ _ _ (g.K.Sink.is_flushed c.args.sink.now) c.args.sink.now c.args.sink.now c.in-Err.fault c.refused.result refl status told;
      prefix = no_file_prefix Ethernet Offload (merging o.blocks (options o)) _ _ _ _ c.in-Err.fault told;
      made = tt;
      blocks = search rules;
      flows = no_file_back o.blocks (options o) (lawful_options o c.requires.range) _ _ c.in-Err.fault c.refused.result status told;
    }

pub returns-in-Err-write_file_head-clause-answered : goal.returns-in-Err-write_file_head-clause-answered
returns-in-Err-write_file_head-clause-answered g c =
    let o = c.args.options in
    let told = c.in-Ok.ensures.given in
    let failed = c.in-Err-write_file_head.ensures.err in
    record {
      given = head_failed Ethernet Offload (merging o.blocks (options o)) _ _ _ _ (g.K.Sink.is_flushed c.write_file_head.new.sink) c.args.sink.now c.write_file_head.new.sink c.in-Ok.file failed told;
      prefix = head_failed_prefix Ethernet Offload (merging o.blocks (options o)) _ _ _ _ _ c.in-Ok.file failed told;
      made = tt;
      blocks = search rules;
      flows = head_failed_back o.blocks (options o) (lawful_options o c.requires.range) _ _ c.in-Ok.file told;
    }

pub returns-in-Ok-write_file_head-clause-answered : goal.returns-in-Ok-write_file_head-clause-answered
returns-in-Ok-write_file_head-clause-answered g c =
    let o = c.args.options in
    let told = c.in-Ok.ensures.given in
    let wrote = c.in-Ok-write_file_head.ensures.ok in
    let r = c.merge_records.ensures in
    record {
      given = whole_given Ethernet Offload (merging o.blocks (options o)) _ _ _ _ _ _ (g.K.Sink.is_flushed c.merge_records.new.sink) c.args.sink.now c.merge_records.new.sink
          c.in-Ok.file (ending_of c.merge_records.result) told wrote r.given r.flushed;
      prefix = whole_prefix Ethernet Offload (merging o.blocks (options o)) _ _ _ _ _ _ _ _ c.in-Ok.file (λ rose. omega (arith, c.take_file.ensures.later, rose)) told wrote r.prefix;
      made = tt;
      blocks = r.left.blocks;
      flows = whole_back o.blocks (options o) (lawful_options o c.requires.range) _ _ _ c.in-Ok.file c.merge_records.result told r.captured;
    }

pub returns-in-Ok-write_file_head-clause-left : goal.returns-in-Ok-write_file_head-clause-left
returns-in-Ok-write_file_head-clause-left g c =
    let r = c.merge_records.ensures.left in
    record {
      blocks = r.blocks;
      engine = λ ok. merged_whole Ethernet round_need c.args.options.blocks _ _ _ _ c.in-Ok.file c.in-Ok.ensures.given (r.engine ok);
      home = r.home;
    }

pub returns-in-Err-clause-left : goal.returns-in-Err-clause-left
returns-in-Err-clause-left g c = none_left_refused c.args.options.blocks _ c.args.engine.now _ _ c.requires.engine c.in-Err.fault c.refused.result c.refused.ensures.status

pub returns-in-Err-write_file_head-clause-left : goal.returns-in-Err-write_file_head-clause-left
returns-in-Err-write_file_head-clause-left g c = none_left_unwritten c.args.options.blocks _ c.args.engine.now _ _ c.requires.engine
