use Rattle.offload_c.proofs.Outcomes.{segmented_gives}
use Rattle.offload_c.proofs.segment_call.segment_bytes.Goals as goal

pub returns : goal.returns
returns c =
    let run = c.segment_capture-end in
    record {
      gives = segmented_gives c.args.blocks c.in-Ok.run' c.in-Ok-grown_sink.sink.bytes.items run.new.sink.bytes c.outcome_of.result c.args.capture.now _ run.result
          c.in-Ok.ensures.made c.in-Ok-grown_sink.ensures.empty c.outcome_of.ensures.outcome run.ensures.given;
    }
