use Rattle.pcap_io.proofs.SplitLaws.{splits}
use Rattle.pcap_io.proofs.laws.capture_splits.Goals as goal

pub returns : goal.returns
returns c = record { law = splits }
