use Rattle.std.proofs.Common.{◌∙◌, arith}
use Rattle.offload_c.proofs.Rooms.{not_short}
use Rattle.offload_c.proofs.SegmentedBound.{segmented_fits}
use Rattle.offload_c.proofs.exports.offload_segment.Goals as goal

pub returns-in-Whole-clause-room : goal.returns-in-Whole-clause-room
returns-in-Whole-clause-room c = λ packets few room.
    not_short _ _ _ _ _ _ _ c.deliver.ensures.short (c.deref.ensures.value ∙ c.in-Whole.ensures.gives.1)
    (segmented_fits c.args.blocks c.args.capture.now packets (λ k. omega (arith, c.type_inv.capture k)) few) room

pub returns-in-Refused-clause-room : goal.returns-in-Refused-clause-room
returns-in-Refused-clause-room c = λ packets few room.
    not_short _ _ _ _ _ _ _ c.deliver-in-Refused.ensures.short (c.deref-in-Refused.ensures.value ∙ c.in-Refused.ensures.gives.1)
    (segmented_fits c.args.blocks c.args.capture.now packets (λ k. omega (arith, c.type_inv.capture k)) few) room

pub returns-in-Empty-clause-room : goal.returns-in-Empty-clause-room
returns-in-Empty-clause-room c = λ packets few room.
    not_short _ _ _ _ _ _ _ c.deliver-in-Empty.ensures.short (c.deref-in-Empty.ensures.value ∙ c.in-Empty.ensures.gives.1)
    (segmented_fits c.args.blocks c.args.capture.now packets (λ k. omega (arith, c.type_inv.capture k)) few) room
