use Rattle.std.proofs.Common.{arith, lit<}
use Rattle.pcap_io.specs.declared.heads.Link.TheVariants.{Ethernet}
use Rattle.cap_make.specs.Capture.{made, made_head, made_packets, records_from, first_next}
use Rattle.cap_make.proofs.Lawful.{all_lawful, as_many}
use Rattle.cap_make.proofs.laws.made_reads_back.Goals as goal

pub returns : goal.returns
unfolding made records_from
returns c = record {
  law = λ seed count few.
      (c.capture_reads_back.ensures.law 0 made_head Ethernet (made_packets seed count) (lit< tt) (lit< tt) (all_lawful count 0 (first_next seed) (omega arith)), as_many count 0 (first_next seed));
}
