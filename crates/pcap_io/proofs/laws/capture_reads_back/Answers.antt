use Rattle.pcap_io.proofs.SplitLaws.{written_law}
use Rattle.pcap_io.proofs.laws.capture_reads_back.Goals as goal

pub returns : goal.returns
returns c = record { law = written_law }
