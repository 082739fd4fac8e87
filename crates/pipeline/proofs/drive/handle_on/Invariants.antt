use Rattle.std.specs.Arc.{arc_value}
use Rattle.pipeline.proofs.drive.handle_on.Given as goal

abbrev pub ghosts-handle_named : goal.ghosts-handle_named
ghosts-handle_named g a = record { blocks = a.rounds.now.blocks; lists = arc_value a.way.taker.lists }
