use Rattle.std.proofs.Common.{refl, arith}
use Rattle.check_command.proofs.Telling.{read_given, refused_given}
use Rattle.check_command.proofs.Prefixes.{no_lines_prefix, checked_prefix}
use Rattle.pcap_io.specs.declared.heads.Link.TheVariants.{Ethernet}
use Rattle.offload_model.specs.Need.{round_need}
use Rattle.command_rounds.proofs.Used.{merged_whole}
use Rattle.check_command.proofs.Leaving.{none_left_refused}
use Rattle.check_command.proofs.check.check_read.Goals as goal

pub returns-in-Err-clause-given : goal.returns-in-Err-clause-given
returns-in-Err-clause-given g c = refused_given c.args.options _ _ _ _ _ c.in-Err.fault c.refused.result refl c.refused.ensures.status c.in-Err.ensures.given

pub returns-clause-given : goal.returns-clause-given
returns-clause-given g c =
    read_given c.totals_are_told.ensures.law c.args.options _ _ _ c.in-Ok.file _ _ _ _ _ c.check_records.result c.in-Ok.ensures.given c.check_records.ensures.given

pub returns-in-Err-clause-prefix : goal.returns-in-Err-clause-prefix
returns-in-Err-clause-prefix g c = no_lines_prefix c.args.options _ _ _ _ c.in-Err.fault c.in-Err.ensures.given

pub returns-clause-prefix : goal.returns-clause-prefix
returns-clause-prefix g c =
    checked_prefix c.totals_are_told.ensures.law c.args.options _ _ _ c.in-Ok.file _ _ _ _ _ c.check_records.result
    (λ rose. omega (arith, c.take_file.ensures.later, rose)) c.in-Ok.ensures.given c.check_records.ensures.given

pub returns-clause-left : goal.returns-clause-left
returns-clause-left g c =
    let r = c.check_records.ensures.left in
    record {
      blocks = r.blocks;
      engine = λ ok. merged_whole Ethernet round_need c.args.options.blocks _ _ _ _ c.in-Ok.file c.in-Ok.ensures.given
          (r.engine ok);
      home = r.home;
    }

pub returns-in-Err-clause-left : goal.returns-in-Err-clause-left
returns-in-Err-clause-left g c =
    none_left_refused c.args.options.blocks _ c.args.engine.now _ _ c.requires.engine c.in-Err.fault c.refused.result
    c.refused.ensures.status
