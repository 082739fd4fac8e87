use Rattle.std.proofs.Common.{arith}
use Rattle.lanes.proofs.Adding.{slots_from}
use Rattle.lanes.proofs.fill.weigh.Goals as goal

pub overflow_add-count : goal.overflow_add-count
overflow_add-count c =
    let ps = c.args.packets.now.items in
    let i = c.loop-slot.slot-index in
    let from = slots_from i ps c.slots-slot-items.result.now c.slot-item.result (omega arith) c.slots-slot-items.ensures.slots c.slot-item.is in
    omega (arith, from, c.count-count.ensures.value, c.loop-slot.invariant, c.requires.few)

pub loop-slot-preserved : goal.loop-slot-preserved
loop-slot-preserved c =
    let from = slots_from c.loop-slot.slot-index c.args.packets.now.items c.slots-slot-items.result.now c.slot-item.result (omega arith) c.slots-slot-items.ensures.slots c.slot-item.is in
    omega (arith, from, c.count-count.ensures.value, c.loop-slot.invariant)
