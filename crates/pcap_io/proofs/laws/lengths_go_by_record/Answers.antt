use Rattle.pcap_io.proofs.LengthLaws.{lengths_by_record}
use Rattle.pcap_io.proofs.laws.lengths_go_by_record.Goals as goal

pub returns : goal.returns
returns c = record { law = lengths_by_record }
