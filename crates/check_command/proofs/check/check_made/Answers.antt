use Rattle.std.proofs.Common.{ap, arith}
use Rattle.check_totals.specs.Lines.{made_line}
use Rattle.check_command.proofs.Telling.{made_says}
use Rattle.std.proofs.Common.{◌≡◌, List, [], ℕ, Some, subst}
use Rattle.pcap_io.specs.declared.heads.Link.TheVariants.{Ethernet}
use Rattle.pcap_io.specs.Capture.{reads}
use Rattle.offload_model.specs.Need.{round_need}
use Rattle.command_rounds.specs.Leaving.{HasMerged}
use Rattle.command_rounds.proofs.Used.{merged_whole}
use Rattle.check_command.proofs.Leaving.{merged_to, none_left_refused}
use Rattle.check_command.proofs.check.check_made.Goals as goal

pub returns-clause-made : goal.returns-clause-made
returns-clause-made g c =
    made_says c.totals_are_told.ensures.law c.made_reads_back.ensures.law c.args.seed c.args.count c.args.options c.in-Ok.file (made_line c.args.count c.made_len.result) _ _ _ _
    c.check_records.result c.new-source.result c.take_file.new.source c.check_records.new.source (omega (arith, c.ranges.count.fits)) c.new-source.ensures.made
    (ap (made_line c.args.count) c.made_len.ensures.len) (λ rose. omega (arith, rose)) c.in-Ok.ensures.given c.check_records.ensures.given

pub returns-clause-left : goal.returns-clause-left
returns-clause-left g c =
    let r = c.check_records.ensures.left in
    let n = c.args.options.blocks in
    let left = c.check_records.new.engine in
    let need = λ (given : List ℕ). round_need (reads Ethernet given).packets in
    record {
      blocks = r.blocks;
      engine = λ ok.
          subst (λ (x : List ℕ). HasMerged n need left (Some x) (Some [])) c.new-source.ensures.made
          (merged_to n need left _ _ [] (merged_whole Ethernet round_need n left _ _ _ c.in-Ok.file c.in-Ok.ensures.given
          (r.engine ok)));
      home = r.home;
    }

pub returns-in-Err-clause-left : goal.returns-in-Err-clause-left
returns-in-Err-clause-left g c =
    none_left_refused c.args.options.blocks _ c.args.engine.now _ _ c.requires.engine c.in-Err.fault c.refused.result
    c.refused.ensures.status
