use Rattle.std.proofs.Common.{sym, subst}
use Rattle.frame_layout.specs.Shape.{inner_from}
use Rattle.frame_layout.specs.Found.{IsFound}
use Rattle.frame_layout.proofs.Readers.{carried_tcp, inner_udp, inner_none}
use Rattle.frame_layout.proofs.read.inner.Goals as goal

pub returns-then-protocol-eq6 : goal.returns-then-protocol-eq6
returns-then-protocol-eq6 c = record {
  found = subst (IsFound c.args.found.now.items c.tcp.new.found.items c.tcp.result)
      (sym (carried_tcp c.args.frame.now (inner_from c.args.frame.now) c.args.protocol c.args.at c.if-protocol-eq6.true)) c.tcp.ensures.found;
}

pub returns-then-protocol-eq17 : goal.returns-then-protocol-eq17
returns-then-protocol-eq17 c = record {
  found = subst (IsFound c.args.found.now.items c.udp.new.found.items c.udp.result)
      (sym (inner_udp c.args.frame.now c.args.protocol c.args.at c.if-protocol-eq17.true)) c.udp.ensures.found;
}

pub returns-else-protocol-eq17 : goal.returns-else-protocol-eq17
returns-else-protocol-eq17 c = record {
  found = inner_none c.args.frame.now c.args.protocol c.args.at c.if-protocol-eq6.false c.if-protocol-eq17.false;
}
