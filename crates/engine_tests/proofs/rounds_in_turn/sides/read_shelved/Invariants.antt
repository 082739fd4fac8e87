use Rattle.engine_tests.proofs.rounds_in_turn.sides.read_shelved.Given as goal

abbrev pub ghosts-read_beside : goal.ghosts-read_beside
ghosts-read_beside g a = record { stock = a.pool.blocks }
