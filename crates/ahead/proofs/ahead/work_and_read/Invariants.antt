use Rattle.std.specs.Arc.{arc_value}
use Rattle.ahead.proofs.ahead.work_and_read.Given as goal

abbrev pub ghosts-work_listed : goal.ghosts-work_listed
ghosts-work_listed g a = record { lists = arc_value a.taker.lists }
