use Rattle.std.proofs.Common.{◌<◌, length, get_or, set, ap, ◌∙◌, subst, arith}
use Rattle.std.specs.Prelude.{All, List}
use Rattle.std.proofs.lemmas.List.{set-get_or}
use Rattle.raw_block.specs.Views.{SoleState}
use Rattle.skb.specs.SkbState.{IsApartFrom}
use Rattle.gro.specs.Packets.{PacketsState}
use Rattle.gro.specs.declared.slot.Slot.{Slot as Held}
use Rattle.lanes.specs.declared.lane.QueueLane.{QueueLane}
use Rattle.lanes.proofs.Listing.{front_more}
use Rattle.lanes.proofs.soles.differ_from_queues.Goals as goal

pub loop-i-preserved : goal.loop-i-preserved
loop-i-preserved c =
    let i = c.loop-i.invariant in
    let k = c.loop-i.i in
    let d = c.index-lanes-i.result in
    let lt : k < length c.args.lanes.now = omega (arith, ap length i.same) in
    let one = subst (λ (s : SoleState). All (λ (p : Held). IsApartFrom s.block p.skb) (get_or c.loop-i.lanes k d).packets.items) i.sole c.differ_from.ensures.others in
    record {
      others = front_more (λ (l : QueueLane). All (λ (p : Held). IsApartFrom c.args.sole.now.block p.skb) l.packets.items) c.args.lanes.now k d lt i.others
          (subst (λ (z : List QueueLane). All (λ (p : Held). IsApartFrom c.args.sole.now.block p.skb) (get_or z k d).packets.items) i.same one);
      same = ap (λ (z : PacketsState). set c.loop-i.lanes k (record (get_or c.loop-i.lanes k d) { packets = z })) c.differ_from.ensures.same.0
          ∙ set-get_or c.loop-i.lanes k d ∙ i.same;
      sole = c.differ_from.ensures.same.1 ∙ i.sole;
      end = i.end;
    }
