use Rattle.pcap_io.proofs.Fronts.{file_given}
use Rattle.pcap_io.proofs.reader.take_file.Goals as goal

pub returns-clause-given : goal.returns-clause-given
returns-clause-given g c =
    file_given _ _ _ _ c.in-Ok.count c.read_full.new.into c.read_full.auto.into c.in-Ok.ensures.bound c.in-Ok.ensures.bytes c.file_of.ensures.file
