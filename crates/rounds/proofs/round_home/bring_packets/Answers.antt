use Rattle.std.proofs.Common.{◌≡◌, [], arith, rules}
use Rattle.gro.specs.Slots.{of_packet, of_packets}
use Rattle.rounds.proofs.Coming.{packets_pop, counts_pop, no_packets, may_rest, may_first, comes_none, comes_step, comes_all}
use Rattle.rounds.proofs.round_home.bring_packets.Goals as goal

pub loop-packet-init : goal.loop-packet-init
loop-packet-init c = record {
  comes = comes_none (of_packets c.args.packets.now.items) c.args.pool.now c.args.places.now c.requires.may;
  bare = c.requires.bare;
  room = c.requires.spare;
  spare = omega arith;
}

pub bring_packet-requires-clause-may : goal.bring_packet-requires-clause-may
bring_packet-requires-clause-may c =
    let l = c.loop-packet in
    let rest = c.pop.new.self.items in
    may_first (of_packets l.packets.items) (of_packet c.in-Some.packet) (of_packets rest) l.pool l.places (packets_pop l.packets.items rest c.in-Some.packet c.in-Some.ensures.some)
    (may_rest (of_packets c.args.packets.now.items) (of_packets l.packets.items) c.args.pool.now l.pool c.args.places.now l.places c.requires.may l.invariant.comes)

pub bring_packet-requires-clause-spare : goal.bring_packet-requires-clause-spare
bring_packet-requires-clause-spare c =
    let k = counts_pop c.loop-packet.packets.items c.pop.new.self.items c.in-Some.packet c.in-Some.ensures.some in
    omega (arith, k, c.loop-packet.invariant.room)

pub loop-packet-preserved : goal.loop-packet-preserved
loop-packet-preserved c =
    let l = c.loop-packet in
    let e = c.bring_packet in
    let rest = c.pop.new.self.items in
    let k = counts_pop l.packets.items rest c.in-Some.packet c.in-Some.ensures.some in
    record {
      comes = comes_step (of_packets c.args.packets.now.items) (of_packets l.packets.items) (of_packet c.in-Some.packet) (of_packets rest) c.args.pool.now l.pool e.new.pool c.args.places.now l.places
          e.new.places
          (packets_pop l.packets.items rest c.in-Some.packet c.in-Some.ensures.some) l.invariant.comes e.ensures.comes;
      bare = e.ensures.bare;
      room = omega (arith, k, e.ensures.spare, l.invariant.room);
      spare = omega (arith, k, e.ensures.spare, l.invariant.spare);
    }

pub returns-clause-comes : goal.returns-clause-comes
returns-clause-comes c =
    let l = c.loop-packet in
    let e : l.packets.items ≡ [] = search rules in
    comes_all (of_packets c.args.packets.now.items) (of_packets l.packets.items) c.args.pool.now l.pool c.args.places.now l.places (no_packets l.packets.items e) l.invariant.comes
