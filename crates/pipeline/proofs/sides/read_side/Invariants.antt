use Rattle.std.proofs.Common.{◌≡◌, ◌≤◌, ◌+◌, length}
use Rattle.pcap_io.specs.Places.{IsReady}
use Rattle.pcap_io.specs.declared.heads.Link.TheVariants.{Ethernet}
use Rattle.rtrb.specs.Ring.{sent, SameProducer}
use Rattle.pipeline.specs.Parcels.{packets_of, rounds_of}
use Rattle.pipeline.specs.Reads.{HasRead}
use Rattle.rounds.specs.Reads.{reader_at}
use Rattle.rounds.proofs.Rows.{AllGo}
use Rattle.pipeline.proofs.sides.read_side.Given as goal

abbrev pub invariant-loop : goal.invariant-loop
invariant-loop g l = record {
  ring : SameProducer l.initial.supply.out l.supply.out;
  same : l.reader.source.ghost_name ≡ l.initial.reader.source.ghost_name;
  ready : IsReady l.reader.place;
  link : l.reader.place.link ≡ Ethernet;
  read : HasRead l.initial.intake l.intake (reader_at g.S.Source.left g.S.Source.faults l.initial.reader l.initial.intake.taken) (reader_at g.S.Source.left g.S.Source.faults l.reader l.intake.taken)
      (sent l.initial.supply.out) (sent l.supply.out) l.initial.supply.arrivals l.supply.arrivals;
  go : AllGo read.read.more;
  number : l.number ≡ length (rounds_of (sent l.supply.out));
  packets : packets_of (rounds_of (sent l.supply.out)) ≤ l.reader.place.number;
  counted : l.number ≤ l.reader.place.number + 1;
}
