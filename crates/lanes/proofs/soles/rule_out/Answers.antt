use Rattle.std.proofs.Common.{subst}
use Rattle.std.specs.Prelude.{All}
use Rattle.raw_block.specs.Views.{SoleState}
use Rattle.skb.specs.SkbState.{IsApartFrom}
use Rattle.gro.specs.declared.slot.Slot.{Slot as Held}
use Rattle.lanes.specs.declared.lane.QueueLane.{QueueLane}
use Rattle.lanes.proofs.Apart.{none_there}
use Rattle.lanes.proofs.soles.rule_out.Goals as goal

pub unreachable-requires : goal.unreachable-requires
unreachable-requires c =
    let s = c.in-Some.sole in
    none_there s.block s.mark c.args.packets.now.items c.args.lanes.now c.deref_mut.result.now c.deref_mut-in-Some.result.now c.requires.theirs c.deref_mut.ensures.value
    c.deref_mut-in-Some.ensures.value c.differ_from.ensures.others
    (subst (λ (z : SoleState). All (λ (l : QueueLane). All (λ (p : Held). IsApartFrom z.block p.skb) l.packets.items) c.deref_mut-in-Some.result.now) c.differ_from.ensures.same.1 c.differ_from_queues.ensures.others)
    c.in-Some.ensures.some
