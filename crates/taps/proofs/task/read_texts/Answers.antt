use Rattle.std.proofs.Common.{ap, sym, ◌++◌, ◌∙◌}
use Rattle.std.specs.Prelude.{option_map}
use Rattle.offload_model.specs.Written.{shown_of}
use Rattle.taps.specs.Clones.{shown_packet}
use Rattle.taps.specs.Texts.{text_of}
use Rattle.taps.proofs.Spans.{one_more}
use Rattle.taps.proofs.task.read_texts.Goals as goal

pub loop-clone-preserved : goal.loop-clone-preserved
loop-clone-preserved c =
    let filter = option_map (λ p. p.now) c.args.filter in
    let clone = c.clone-item.result in
    c.in_ok-read.ensures.read
    ∙ ap (λ z. c.loop-clone.texts ++ text_of c.args.snap c.args.tap (shown_of filter z)) c.lend.ensures.same
    ∙ ap (λ z. z ++ text_of c.args.snap c.args.tap (shown_packet filter clone)) c.loop-clone.invariant
    ∙ sym (one_more (shown_packet filter) c.args.snap c.args.tap c.args.clones.now c.loop-clone.clone-index clone c.loop-clone-test.true c.clone-item.is)
