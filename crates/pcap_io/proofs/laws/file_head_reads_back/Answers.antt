use Rattle.pcap_io.proofs.HeadLaws.{file_head_law}
use Rattle.pcap_io.proofs.laws.file_head_reads_back.Goals as goal

pub returns : goal.returns
returns c = record { law = file_head_law }
