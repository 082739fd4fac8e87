use Rattle.pcap_io.proofs.Judging.{by_header}
use Rattle.pcap_io.proofs.judge.refuse_head.Goals as goal

pub returns-in-Ethernet : goal.returns-in-Ethernet
returns-in-Ethernet c = record {
  refused = by_header c.args.order c.args.link _ c.args.number c.get32-captured.result c.get32-original.result
      c.args.head.now c.refuse_lengths.result c.if-head-lt16.false c.if-number.false
      c.in-Ethernet.is c.get32-captured.ensures.number c.get32-original.ensures.number c.refuse_lengths.ensures.refused;
}

pub returns-in-Offload : goal.returns-in-Offload
returns-in-Offload c = record {
  refused = by_header c.args.order c.args.link _ c.args.number c.get32-captured.result c.get32-original.result
      c.args.head.now c.refuse_lengths-in-Offload.result c.if-head-lt16.false c.if-number.false
      c.in-Offload.is c.get32-captured.ensures.number c.get32-original.ensures.number
      c.refuse_lengths-in-Offload.ensures.refused;
}
