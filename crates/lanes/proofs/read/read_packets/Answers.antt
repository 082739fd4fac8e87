use Rattle.std.proofs.Common.{ap, sym, ◌++◌, ◌∙◌}
use Rattle.std.specs.Prelude.{option_map}
use Rattle.offload_model.specs.Written.{shown_of}
use Rattle.taps.specs.Texts.{text_of}
use Rattle.taps.proofs.Spans.{one_more}
use Rattle.lanes.specs.Taps.{shown_slot}
use Rattle.lanes.proofs.read.read_packets.Goals as goal

pub loop-slot-preserved : goal.loop-slot-preserved
loop-slot-preserved c =
    let filter = option_map (λ p. p.now) c.args.filter in
    let slot = c.slot-item.result in
    c.in_ok-read.ensures.read
    ∙ ap (λ z. c.loop-slot.texts ++ text_of c.args.snap c.args.tap (shown_of filter z)) c.lend.ensures.same
    ∙ ap (λ z. z ++ text_of c.args.snap c.args.tap (shown_slot filter slot)) c.loop-slot.invariant
    ∙ sym (one_more (shown_slot filter) c.args.snap c.args.tap c.args.packets.now c.loop-slot.slot-index slot c.loop-slot-test.true c.slot-item.is)
