use Rattle.raw_block.proofs.Walking.{IsSend}
use Rattle.raw_block.specs.contracts.held.WordSeen.{the_row}
use Rattle.raw_block.proofs.Sent.{was_keyless}

pub send : IsSend the_row
send = record { owned = λ d vs. ((λ vss. (tt, tt)), was_keyless d.life.names.1 d.total); leaving = λ k d w. tt }
