use Rattle.pcap_io.proofs.HeadLaws.{rec_bytes_law}
use Rattle.pcap_io.proofs.laws.rec_head_writes_back.Goals as goal

pub returns : goal.returns
returns c = record { law = rec_bytes_law }
