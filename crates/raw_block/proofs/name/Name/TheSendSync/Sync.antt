use Rattle.raw_block.proofs.Walking.{IsSync, part_keyless}
use Rattle.raw_block.specs.contracts.name.Name.{the_row}
use Rattle.raw_block.proofs.name.Name.TheSendSync.Send.{send}

pub sync : IsSync the_row
sync = record { shared = λ d b o κ q. part_keyless the_row send q d b o }
