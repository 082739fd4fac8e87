use Rattle.pcap_io.proofs.SplitLaws.{unique}
use Rattle.pcap_io.proofs.laws.split_is_unique.Goals as goal

pub returns : goal.returns
returns c = record { law = unique }
