use Rattle.std.proofs.Common.{◌+◌, ◌-◌, List, arith, ap, ◌∙◌}
use Rattle.frags.specs.Account.{of_outcomes}
use Rattle.frags.proofs.Growing.{grows_trans, grows_by}
use Rattle.gro_table.specs.declared.packet.Packet.{Packet}
use Rattle.gro_table.specs.Held.{of_packet, of_packets, counts_of, count_of}
use Rattle.gro_table.specs.Lists.{held_of}
use Rattle.gro_table.proofs.Lining.{counts_more}
use Rattle.gro_table.proofs.Releasing.{keeps_on, pushed_held, pushed_home}
use Rattle.gro_table.proofs.packet_list.PacketList.release_all.Goals as goal

pub loop-packet-preserved : goal.loop-packet-preserved
loop-packet-preserved c =
    let i = c.loop-packet.invariant in
    let p : Packet = c.in-Some.packet in
    let left : List Packet = held_of c.pop.new.self in
    let e = c.in-Some.ensures.some in
    let n = ap counts_of e ∙ counts_more left p in
    let r = c.release in
    let all = counts_of (held_of c.args.self.now) in
    record {
      paired = c.pop.ensures.paired;
      fewer = omega (arith, i.fewer, n);
      grows = grows_by ((all - counts_of (held_of c.loop-packet.self)) + count_of p) (all - counts_of left) c.args.out.now r.new.out
          (grows_trans (all - counts_of (held_of c.loop-packet.self)) (count_of p) c.args.out.now c.loop-packet.out r.new.out i.grows r.ensures.grows) (omega (arith, i.fewer, n));
      places = omega (arith, i.places, n, r.ensures.places);
      kept = keeps_on (of_packets (held_of c.args.self.now)) (of_packet p) (of_packets (held_of c.loop-packet.self)) (of_packets left) (of_outcomes c.args.out.now)
          (of_outcomes c.loop-packet.out) (of_outcomes r.new.out)
          (λ t m. (
            ap (λ (z : List Packet). (of_packets z).held t m) e ∙ pushed_held left p t m,
            ap (λ (z : List Packet). (of_packets z).homes t.blocks m) e ∙ pushed_home left p t.blocks m,
          )) i.kept r.ensures.kept;
    }

pub release-requires : goal.release-requires
release-requires c =
    let i = c.loop-packet.invariant in
    let n = ap counts_of c.in-Some.ensures.some ∙ counts_more (held_of c.pop.new.self) c.in-Some.packet in
    record { room = omega (arith, i.places, c.requires.room, n) }
