use Rattle.std.proofs.Common.{◌≡◌, ◌+◌, ◌++◌, [], ◌∷◌, List, drop, map, length, length-set, append_assoc, ap, sym, subst, ◌∙◌, arith}
use Rattle.std.proofs.lemmas.List.{map-append}
use Rattle.frags.specs.Account.{Keeps, KeepsBlocks, both}
use Rattle.gro.specs.declared.slot.Slot.{Slot as Held}
use Rattle.gro.specs.Slots.{packet_of, of_packets, counts_of, WeighAtLeast}
use Rattle.taps.specs.Clones.{packet_of as packet_of_clone, blocks_of, of_clones}
use Rattle.taps.proofs.Returning.{blocks_of-append}
use Rattle.lanes.specs.Clones.{weight_after, AreAfter}
use Rattle.lanes.proofs.Adding.{after_set, here, stop_blocks, stop_keeps, turn_blocks, turn_keeps}
use Rattle.lanes.proofs.clones.clone_all.Goals as goal

pub returns-in_err-clone_packet-clause-after : goal.returns-in_err-clone_packet-clause-after
returns-in_err-clone_packet-clause-after c =
    let l = c.loop-i in
    let one = c.in_err-clone_packet.ensures.cloned in
    subst (AreAfter (c.args.before + 1) c.args.packets.now.items) (sym one.others)
    (after_set (c.args.before + 1) l.i c.args.packets.now.items l.packets.items one.was one.is (omega arith) one.here one.after l.invariant.after)

pub returns-in_err-clone_packet-clause-kept : goal.returns-in_err-clone_packet-clause-kept
returns-in_err-clone_packet-clause-kept c =
    let l = c.loop-i in
    let old = of_packets c.args.packets.now.items in
    let one = c.in_err-clone_packet.ensures.cloned in
    subst (λ (z : List Held). Keeps old (both (of_packets z) (of_clones l.clones.items))) (sym one.others)
    (stop_keeps l.i old l.packets.items one.was one.is l.clones.items (omega arith) one.here one.kept.0 l.invariant.kept)

pub returns-in_err-clone_packet-clause-blocks : goal.returns-in_err-clone_packet-clause-blocks
returns-in_err-clone_packet-clause-blocks c =
    let l = c.loop-i in
    let old = of_packets c.args.packets.now.items in
    let one = c.in_err-clone_packet.ensures.cloned in
    subst (λ (z : List Held). KeepsBlocks old (both (of_packets z) (of_clones l.clones.items))) (sym one.others)
    (stop_blocks l.i old l.packets.items one.was one.is l.clones.items (omega arith) one.here one.kept.1 l.invariant.blocks)

pub loop-i-preserved : goal.loop-i-preserved
loop-i-preserved c =
    let l = c.loop-i in
    let i = l.invariant in
    let old = c.args.packets.now.items in
    let ps = l.packets.items in
    let qs = c.clone_packet.new.packets.items in
    let clone = c.in_ok-clone_packet.field-0 in
    let one = c.in_ok-clone_packet.ensures.cloned in
    let x = one.was in
    let cs = l.clones.items in
    let ds = c.push_reserved.new.self.items in
    let more = c.push_reserved.ensures.items in
    let rest = drop (l.i + 1) qs in
    let h : drop l.i ps ≡ x ∷ rest = here l.i (l.i + 1) ps x one.is (omega arith) (omega arith) one.here ∙ ap (λ (z : List Held). x ∷ drop (l.i + 1) z) (sym one.others) in
    let blocks = ap blocks_of more ∙ blocks_of-append cs (clone ∷ []) in
    record {
      after = subst (AreAfter (c.args.before + 1) old) (sym one.others) (after_set (c.args.before + 1) l.i old ps x one.is (omega arith) one.here one.after i.after);
      weigh = (subst (WeighAtLeast (weight_after c.args.before)) h i.weigh).1;
      kept = subst (λ (z : List Held). Keeps (of_packets old) (both (of_packets z) (of_clones ds))) (sym one.others)
          (turn_keeps l.i (of_packets old) ps x one.is cs ds clone (omega arith) one.here more one.kept.kept i.kept);
      blocks = subst (λ (z : List Held). KeepsBlocks (of_packets old) (both (of_packets z) (of_clones ds))) (sym one.others)
          (turn_blocks l.i (of_packets old) ps x one.is cs ds clone (omega arith) one.here more one.kept.blocks i.blocks);
      fewer = omega (arith, blocks, ap counts_of h, one.kept.few, i.fewer);
      texts =
          ap (λ z. map packet_of_clone z ++ map packet_of rest) more
          ∙ ap (λ z. z ++ map packet_of rest) (map-append packet_of_clone cs (clone ∷ []))
          ∙ append_assoc (map packet_of_clone cs) (packet_of_clone clone ∷ []) (map packet_of rest)
          ∙ ap (λ z. map packet_of_clone cs ++ z ∷ map packet_of rest) one.kept.same
          ∙ ap (λ z. map packet_of_clone cs ++ map packet_of z) (sym h)
          ∙ i.texts;
      size = ap length one.others ∙ length-set ps l.i one.is ∙ i.size;
      count = omega (arith, c.push_reserved.ensures.len, i.count);
      room = c.push_reserved.ensures.capacity ∙ i.room;
    }
