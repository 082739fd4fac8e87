use Rattle.std.proofs.Common.{◌≡◌, ◌∷◌, [], ap, arith, length, length-append, refl, rules, ◌∙◌}
use Rattle.gro.specs.Slots.{counts_of, weighed_slots}
use Rattle.rounds.proofs.Coming.{alone_pop, counts_pop, weights_pop}
use Rattle.rounds.proofs.round_home.bring_alone.Goals as goal

pub loop-packet-init : goal.loop-packet-init
loop-packet-init c = record { alone = c.requires.alone; count = refl; named = λ h. refl; memory = omega arith; made = (refl, refl) }

pub bring_blocks-requires-clause-alone : goal.bring_blocks-requires-clause-alone
bring_blocks-requires-clause-alone c = (alone_pop c.loop-packet.packets.items c.pop.new.self.items c.in-Some.packet c.in-Some.ensures.some c.loop-packet.invariant.alone).1

pub bring_blocks-requires-clause-room : goal.bring_blocks-requires-clause-room
bring_blocks-requires-clause-room c =
    let l = c.loop-packet in
    let k = counts_pop l.packets.items c.pop.new.self.items c.in-Some.packet c.in-Some.ensures.some in
    omega (arith, k, l.invariant.count, l.invariant.made.0, c.requires.room)

pub loop-packet-preserved : goal.loop-packet-preserved
loop-packet-preserved c =
    let l = c.loop-packet in
    let rest = c.pop.new.self.items in
    let e = c.bring_blocks.ensures in
    let k = counts_pop l.packets.items rest c.in-Some.packet c.in-Some.ensures.some in
    record {
      alone = (alone_pop l.packets.items rest c.in-Some.packet c.in-Some.ensures.some l.invariant.alone).0;
      count = omega (arith, k, e.home, l.invariant.count);
      named = λ h. omega (arith, weights_pop h l.packets.items rest c.in-Some.packet c.in-Some.ensures.some, e.blocks h, l.invariant.named h);
      memory = omega (arith, l.invariant.memory, c.in-Some.ensures.room, ap length c.in-Some.ensures.some, length-append rest (c.in-Some.packet ∷ []));
      made = (e.made.0 ∙ l.invariant.made.0, e.made.1 ∙ l.invariant.made.1);
    }

pub returns-clause-adds : goal.returns-clause-adds
returns-clause-adds c =
    let i = c.loop-packet.invariant in
    let e : c.loop-packet.packets.items ≡ [] = search rules in
    record {
      home = omega (arith, ap counts_of e, i.count);
      named = λ h. omega (arith, ap (weighed_slots h) e, i.named h);
      made = i.made;
    }
