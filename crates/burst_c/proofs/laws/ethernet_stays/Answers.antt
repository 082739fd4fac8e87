use Rattle.burst_c.proofs.Ethernet.{ethernet_stays}
use Rattle.burst_c.proofs.laws.ethernet_stays.Goals as goal

pub returns : goal.returns
returns c = record { law = ethernet_stays }
