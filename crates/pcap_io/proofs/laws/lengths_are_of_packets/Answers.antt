use Rattle.pcap_io.proofs.LengthLaws.{lengths_of_packets}
use Rattle.pcap_io.proofs.laws.lengths_are_of_packets.Goals as goal

pub returns : goal.returns
returns c = record { law = lengths_of_packets }
