use Rattle.std.proofs.Common.{subst}
use Rattle.off_io.specs.Told.{Told}
use Rattle.pcap_io.specs.declared.heads.Link.TheVariants.{Ethernet, Offload}
use Rattle.offload_model.specs.Passing.{Ending, merging, merging_whole, Passes}
use Rattle.rounds.specs.Merging.{ending_of, options_of}
use Rattle.offload_c.proofs.Headers.{no_file, head_failed, run_given}
use Rattle.offload_c.proofs.Outcomes.{merge_fault}
use Rattle.offload_c.proofs.merging.merge_capture.Goals as goal

pub returns-in-Err : goal.returns-in-Err
returns-in-Err g c =
    let rounds = c.args.rounds.now in
    let h = g.K.Sink.held c.args.sink.now in
    record {
      given = subst (λ (e : Ending). Told (g.S.Source.left c.args.source.now) (g.S.Source.left c.take_file.new.source) (Passes (merging_whole rounds.blocks (options_of rounds)) h h e))
          (merge_fault c.in-Err.fault c.end_of.result c.end_of.ensures.fault) (no_file Ethernet Offload (merging rounds.blocks (options_of rounds)) _ _ h c.in-Err.fault c.in-Err.ensures.given);
    }

pub returns-in-Ok-write_file_head : goal.returns-in-Ok-write_file_head
returns-in-Ok-write_file_head g c =
    let rounds = c.args.rounds.now in
    record {
      given = run_given Ethernet Offload (merging rounds.blocks (options_of rounds)) _ _ _ _ _ _ c.in-Ok.file (ending_of c.merge_from.result) c.in-Ok-write_file_head.ensures.ok c.in-Ok.ensures.given
          c.merge_from.ensures.given;
    }

pub returns-in-Err-write_file_head : goal.returns-in-Err-write_file_head
returns-in-Err-write_file_head g c =
    let rounds = c.args.rounds.now in
    record { given = head_failed Ethernet Offload (merging rounds.blocks (options_of rounds)) _ _ _ _ c.in-Ok.file c.in-Err-write_file_head.ensures.err c.in-Ok.ensures.given }
