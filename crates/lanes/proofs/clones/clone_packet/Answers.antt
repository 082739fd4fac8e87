use Rattle.std.proofs.Common.{◌+◌, get_or, length, refl, ap, arith}
use Rattle.std.specs.Prelude.{Ok}
use Rattle.gro.specs.Packets.{with_skb}
use Rattle.gro.proofs.Weights.{refused_blocks, weighed_clone}
use Rattle.lanes.specs.Clones.{weight_after}
use Rattle.lanes.proofs.Adding.{any_of, at_itself, cloned_size, shared_at, weighs_at}
use Rattle.lanes.proofs.Weighing.{for_memory, is_after, is_clone_of, not_worn, refused_after, refused_keeps, remains, slot_there}
use Rattle.lanes.proofs.clones.clone_packet.Goals as goal

pub bounds-slots-i : goal.bounds-slots-i
bounds-slots-i c =
    omega (arith, c.requires.inside, ap length c.slots.ensures.slots, cloned_size c.args.i c.args.packets.now.items c.clone_at.new.self.items c.clone_at.result c.requires.inside c.clone_at.ensures.cloned)

pub refused-requires : goal.refused-requires
refused-requires c =
    let ps = c.args.packets.now.items in
    let i = c.args.i in
    let d = any_of i ps c.requires.inside in
    let a = (get_or ps i d).skb in
    let cloned = c.in-Err.ensures.cloned d in
    record {
      memory = for_memory a cloned.0 c.in-Err.fault (not_worn c.args.before a c.requires.few (weighs_at (weight_after c.args.before) i ps d c.requires.inside c.requires.weighs)) cloned.1.0.clone;
    }

pub returns-in-Ok : goal.returns-in-Ok
returns-in-Ok c =
    let ps = c.args.packets.now.items in
    let i = c.args.i in
    let k = c.args.before in
    let lt = c.requires.inside in
    let d = any_of i ps lt in
    let p = get_or ps i d in
    let cloned = c.in-Ok.ensures.cloned d in
    let b = cloned.0 in
    let slot = c.index-slots-i.result in
    let there = slot_there i ps c.clone_at.new.self.items (with_skb p b) c.slots.result.now slot lt cloned.1.1 c.slots.ensures.slots c.index-slots-i.is in
    record {
      cloned = record {
        was = p;
        is = with_skb p b;
        here = at_itself i ps d lt;
        others = cloned.1.1;
        after = is_after (k + 1) p b (remains k p.skb b c.in-Ok.skb c.requires.few (weighs_at (weight_after k) i ps d lt c.requires.weighs) cloned.1.0.clone) cloned.1.0.bytes.0
            (weighed_clone p.skb b (Ok c.in-Ok.skb) cloned.1.0.clone);
        kept = is_clone_of p b (record { skb = c.in-Ok.skb; sec = slot.sec; frac = slot.frac; original = slot.original; number = slot.number }) slot (shared_at i ps d lt c.requires.shared)
            cloned.1.0 there (refl, refl, refl, refl);
      };
    }

pub returns-in-Err : goal.returns-in-Err
returns-in-Err c =
    let ps = c.args.packets.now.items in
    let i = c.args.i in
    let k = c.args.before in
    let lt = c.requires.inside in
    let d = any_of i ps lt in
    let p = get_or ps i d in
    let cloned = c.in-Err.ensures.cloned d in
    let b = cloned.0 in
    let shared = shared_at i ps d lt c.requires.shared in
    record {
      cloned = record {
        was = p;
        is = with_skb p b;
        here = at_itself i ps d lt;
        others = cloned.1.1;
        after = refused_after k p b c.in-Err.fault shared (weighs_at (weight_after k) i ps d lt c.requires.weighs) cloned.1.0.clone;
        kept = (refused_keeps p b c.in-Err.fault shared cloned.1.0.clone, refused_blocks p.skb b c.in-Err.fault shared cloned.1.0.clone);
      };
    }

pub offset_bounds-slots-i : goal.offset_bounds-slots-i
offset_bounds-slots-i c = let lt = bounds-slots-i c in search (arith, lt)
