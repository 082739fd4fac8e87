use Rattle.raw_block.proofs.Walking.{IsSend}
use Rattle.raw_block.specs.contracts.held.GivenBack.{the_row}

pub send : IsSend the_row
send = record { owned = λ d vs. ((λ vss. (tt, tt)), ((λ _. tt), λ a. tt)); leaving = λ k d w. tt }
