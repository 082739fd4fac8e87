use Rattle.std.proofs.Common.{sym, ◌∙◌, subst}
use Rattle.frame_layout.specs.Shape.{outer_from}
use Rattle.frame_layout.specs.Found.{IsFound}
use Rattle.frame_layout.proofs.Readers.{carried_tcp, outer_vxlan, outer_udp, outer_gre, outer_none}
use Rattle.frame_layout.proofs.read.outer.Goals as goal

pub returns-then-protocol-eq6 : goal.returns-then-protocol-eq6
returns-then-protocol-eq6 c = record {
  found = subst (IsFound c.args.found.now.items c.tcp.new.found.items c.tcp.result)
      (sym (carried_tcp c.args.frame.now (outer_from c.args.frame.now) c.args.protocol c.args.at c.if-protocol-eq6.true)) c.tcp.ensures.found;
}

pub tunnel-requires-clause-udp : goal.tunnel-requires-clause-udp
tunnel-requires-clause-udp c = sym c.is_udp.ensures.there ∙ c.if-is_udp.true

pub returns-then-is_udp : goal.returns-then-is_udp
returns-then-is_udp c = record {
  found = subst (IsFound c.args.found.now.items c.tunnel.new.found.items c.tunnel.result)
      (sym (outer_vxlan c.args.frame.now c.args.protocol c.args.at c.if-protocol-eq17.true (sym c.is_udp.ensures.there ∙ c.if-is_udp.true)))
      c.tunnel.ensures.found;
}

pub returns-else-is_udp : goal.returns-else-is_udp
returns-else-is_udp c = record {
  found = subst (IsFound c.args.found.now.items c.udp.new.found.items c.udp.result)
      (sym (outer_udp c.args.frame.now c.args.protocol c.args.at c.if-protocol-eq17.true (sym c.is_udp.ensures.there ∙ c.if-is_udp.false)))
      c.udp.ensures.found;
}

pub returns-then-protocol-eq47 : goal.returns-then-protocol-eq47
returns-then-protocol-eq47 c = record {
  found = subst (IsFound c.args.found.now.items c.generic.new.found.items c.generic.result)
      (sym (outer_gre c.args.frame.now c.args.protocol c.args.at c.if-protocol-eq47.true)) c.generic.ensures.found;
}

pub returns-else-protocol-eq47 : goal.returns-else-protocol-eq47
returns-else-protocol-eq47 c = record {
  found = outer_none c.args.frame.now c.args.protocol c.args.at c.if-protocol-eq6.false c.if-protocol-eq17.false c.if-protocol-eq47.false;
}
