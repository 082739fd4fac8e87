use Rattle.std.proofs.Common.{◌≡◌, length, length-set, ap, ◌∙◌, arith}
use Rattle.gro.specs.Packets.{PacketsState}
use Rattle.gro.proofs.Lying.{lent_more, lent_all, lent_packets}
use Rattle.gro.proofs.packets.Packets.share_heads.Goals as goal

pub loop-i-init : goal.loop-i-init
loop-i-init c =
    let items : c.self.inside.slots.items ≡ c.args.self.now.items = ap (λ (t : PacketsState). t.items) c.self.view_is in
    record {
      lent = items;
      end = omega (arith, c.len-i-end.ensures, ap length items);
      size = ap length items;
      room = ap (λ (t : PacketsState). t.room) c.self.view_is;
    }

pub loop-i-preserved : goal.loop-i-preserved
loop-i-preserved c =
    let i = c.loop-i.invariant in
    let e = c.share_head.ensures in
    record {
      lent = lent_more c.loop-i.i c.args.self.now.items c.loop-i.self-inside.slots.items c.index_mut.result.now c.share_head.new.self (omega (arith, i.end, c.loop-i-test.true)) i.lent
          c.index_mut.ensures.value e.head (e.rest.0, e.rest.1, e.rest.2);
      end = i.end;
      size = length-set c.loop-i.self-inside.slots.items c.loop-i.i (record c.index_mut.result.now { skb = c.share_head.new.self }) ∙ i.size;
      room = i.room;
    }

pub returns-clause-lent : goal.returns-clause-lent
returns-clause-lent c =
    let i = c.loop-i.invariant in
    lent_all c.loop-i.i c.args.self.now.items c.loop-i.self-inside.slots.items (omega (arith, i.end, c.loop-i-test.false)) i.lent

pub returns-clause-packets : goal.returns-clause-packets
returns-clause-packets c =
    let i = c.loop-i.invariant in
    lent_packets c.args.self.now.items c.loop-i.self-inside.slots.items
    (lent_all c.loop-i.i c.args.self.now.items c.loop-i.self-inside.slots.items (omega (arith, i.end, c.loop-i-test.false)) i.lent)
