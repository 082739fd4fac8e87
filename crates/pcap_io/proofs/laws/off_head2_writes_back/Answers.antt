use Rattle.pcap_io.proofs.HeadLaws.{off_bytes2_law}
use Rattle.pcap_io.proofs.laws.off_head2_writes_back.Goals as goal

pub returns : goal.returns
returns c = record { law = off_bytes2_law }
