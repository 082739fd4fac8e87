use Rattle.std.proofs.Common.{refl, rules}
use Rattle.pcap_io.specs.declared.heads.Link.TheVariants.{Ethernet}
use Rattle.command_answers.specs.Ending.{ending_of}
use Rattle.command_answers.proofs.Behind.{no_file, head_failed, whole_given}
use Rattle.command_answers.proofs.Prefixes.{no_file_prefix, head_failed_prefix, whole_prefix}
use Rattle.wire_model.specs.Passing.{wiring}
use Rattle.wire_run.proofs.Ends.{counted_whole}
use Rattle.wire_run.proofs.wire.run_wire.Goals as goal

pub returns-in-Err-clause-wired : goal.returns-in-Err-clause-wired
returns-in-Err-clause-wired g c =
    let passing = wiring c.args.options.blocks c.args.options.wiring in
    let told = c.in-Err.ensures.given in
    record {
      given = no_file Ethernet Ethernet passing _ _ _ (g.K.Sink.is_flushed c.args.sink.now) c.args.sink.now c.args.sink.now c.in-Err.fault c.refused.result refl c.refused.ensures.status told;
      prefix = no_file_prefix Ethernet Ethernet passing _ _ _ _ c.in-Err.fault told;
      blocks = search rules;
      counts = search rules;
    }

pub returns-in-Err-write_file_head-clause-wired : goal.returns-in-Err-write_file_head-clause-wired
returns-in-Err-write_file_head-clause-wired g c =
    let passing = wiring c.args.options.blocks c.args.options.wiring in
    let told = c.in-Ok.ensures.given in
    let failed = c.in-Err-write_file_head.ensures.err in
    record {
      given = head_failed Ethernet Ethernet passing _ _ _ _ (g.K.Sink.is_flushed c.write_file_head.new.sink) c.args.sink.now c.write_file_head.new.sink c.in-Ok.file failed told;
      prefix = head_failed_prefix Ethernet Ethernet passing _ _ _ _ _ c.in-Ok.file failed told;
      blocks = search rules;
      counts = search rules;
    }

pub returns-in-Ok-write_file_head-clause-wired : goal.returns-in-Ok-write_file_head-clause-wired
returns-in-Ok-write_file_head-clause-wired g c =
    let o = c.args.options in
    let passing = wiring o.blocks o.wiring in
    let told = c.in-Ok.ensures.given in
    let wrote = c.in-Ok-write_file_head.ensures.ok in
    let r = c.wire_records.ensures in
    record {
      given = whole_given Ethernet Ethernet passing _ _ _ _ _ _ (g.K.Sink.is_flushed c.wire_records.new.sink) c.args.sink.now c.wire_records.new.sink
          c.in-Ok.file (ending_of c.wire_records.result) told wrote r.given r.flushed;
      prefix = whole_prefix Ethernet Ethernet passing _ _ _ _ _ _ _ _ c.in-Ok.file (λ never. never) told wrote r.prefix;
      blocks = r.blocks;
      counts = λ ok. counted_whole o.wiring c.args.counts.now c.wire_records.new.counts _ _ _ c.in-Ok.file c.requires.none told (r.counts ok);
    }
