use Rattle.std.proofs.Common.{map, length, sym, ap, ◌∙◌, subst, arith}
use Rattle.std.specs.Prelude.{List}
use Rattle.frags.specs.Account.{KeepsBlocks, both}
use Rattle.gro.specs.Packets.{PacketsState}
use Rattle.gro.specs.Slots.{packet_of, of_packets}
use Rattle.gro.specs.declared.slot.Slot.{Slot as Held}
use Rattle.lanes.specs.declared.lane.Lanes.{Lanes}
use Rattle.lanes.specs.declared.lane.TapLane.{TapLane}
use Rattle.lanes.specs.Lanes.{of_queues, of_taps}
use Rattle.lanes.specs.Work.{spread_of, IsRefused}
use Rattle.lanes.proofs.Apart.{are_of_packets}
use Rattle.lanes.proofs.Listing.{refilled}
use Rattle.lanes.proofs.Whole.{all_filled, blocks_given, is_given_up}
use Rattle.lanes.proofs.round.begin.Goals as goal

pub returns-in-Ok-clause-ready : goal.returns-in-Ok-clause-ready
returns-in-Ok-clause-ready g c =
    record { queues = all_filled (spread_of c.args.plan.now) (map packet_of c.args.packets.now.items) c.fill.new.lanes.queues.items c.in-Ok.ensures.queues; taps = c.in-Ok.ensures.ready }

pub check_soles-requires : goal.check_soles-requires
check_soles-requires g c =
    let old = of_packets c.args.packets.now.items in
    let now = of_packets c.fill.new.packets.items in
    let ls = c.fill.new.lanes in
    let ws = c.give_all_up.new.lanes in
    record {
      theirs =
          are_of_packets c.args.packets.now.items c.fill.new.packets.items ls.queues.items _
          (subst (λ (z : List TapLane). KeepsBlocks old (both now (both (of_queues ls.queues.items) (of_taps z))))
          (sym (refilled ls.taps.len ws ls.taps.items (omega (arith, c.give_all_up.auto.lanes, ap length c.deref_mut.ensures.value)) (omega (arith, ls.taps.ok))))
          (blocks_given old now ls.queues.items ls.taps.items c.deref_mut.result.now ws c.in-Err.ensures.fills.blocks c.deref_mut.ensures.value c.give_all_up.ensures.blocks))
          c.in-Err.ensures.fills.named;
    }

pub returns-in-Err-clause-refused : goal.returns-in-Err-clause-refused
returns-in-Err-clause-refused g c =
    let ls = c.fill.new.lanes in
    let ws = c.give_all_up.new.lanes in
    let m = c.check_soles.new.lanes in
    let same = c.check_soles.ensures.same in
    let g = c.give_all_up.ensures in
    subst (λ (z : List Held). IsRefused c.args.shared c.args.plan.now c.args.packets.now.items z m) (ap (λ (t : PacketsState). t.items) (sym same.0))
    (is_given_up c.args.shared c.args.plan.now c.args.packets.now.items c.fill.new.packets.items ls m c.deref_mut.result.now ws (ap (λ (z : Lanes). z.queues.items) same.1)
    (ap (λ (z : Lanes). z.taps.items) same.1 ∙ refilled ls.taps.len ws ls.taps.items (omega (arith, c.give_all_up.auto.lanes, ap length c.deref_mut.ensures.value)) (omega (arith, ls.taps.ok)))
    c.deref_mut.ensures.value c.in-Err.ensures.fills g.kept g.blocks g.none g.idle)
