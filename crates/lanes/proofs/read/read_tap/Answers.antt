use Rattle.std.proofs.Common.{map, refl, ap, ◌∙◌}
use Rattle.gro.specs.Slots.{packet_of}
use Rattle.taps.specs.Texts.{texts_of}
use Rattle.lanes.specs.Taps.{shown_slot}
use Rattle.lanes.specs.Work.{shown_by}
use Rattle.lanes.proofs.Reading.{is_watched, shown_slots}
use Rattle.lanes.proofs.read.read_tap.Goals as goal

pub returns-clause-read : goal.returns-clause-read
returns-clause-read g c =
    let plan = c.args.plan.now in
    let ps = c.args.packets.now.items in
    let texts = texts_of plan.snap c.args.tap in
    is_watched plan.snap c.args.tap (shown_by plan (map packet_of ps)) _ c.in_ok-texts.field-0 c.begin_tap.ensures.tap refl
    (c.in_ok-texts.ensures.texts
    ∙ ap (λ z. texts (map (shown_slot z) c.slots.result.now)) c.program_in.ensures.same
    ∙ ap (λ z. texts (map (shown_slot plan.filter) z)) c.slots.ensures.slots
    ∙ ap texts (shown_slots plan.filter ps))
