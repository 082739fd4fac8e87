use Rattle.pcap_io.proofs.HeadLaws.{rec_head_law}
use Rattle.pcap_io.proofs.laws.rec_head_reads_back.Goals as goal

pub returns : goal.returns
returns c = record { law = rec_head_law }
