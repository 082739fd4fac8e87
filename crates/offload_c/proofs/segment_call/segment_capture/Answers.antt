use Rattle.offload_c.proofs.Records.{not_taken_given, not_written_given, ends_given}
use Rattle.offload_c.proofs.segment_call.segment_capture.Goals as goal

pub returns-in-Err : goal.returns-in-Err
returns-in-Err g c = record { given = not_taken_given c.args.run.now.blocks _ _ _ c.in-Err.fault c.fault_of.result c.fault_of.ensures.fault c.in-Err.ensures.given }

pub returns-in-Ok-write_file_head : goal.returns-in-Ok-write_file_head
returns-in-Ok-write_file_head g c =
    record { given = ends_given c.args.run.now.blocks _ _ _ _ _ _ c.in-Ok.file c.segment_from.result c.in-Ok-write_file_head.ensures.ok c.in-Ok.ensures.given c.segment_from.ensures.given }

pub returns-in-Err-write_file_head : goal.returns-in-Err-write_file_head
returns-in-Err-write_file_head g c = record { given = not_written_given c.args.run.now.blocks _ _ _ _ c.in-Ok.file c.in-Err-write_file_head.ensures.err c.in-Ok.ensures.given }
