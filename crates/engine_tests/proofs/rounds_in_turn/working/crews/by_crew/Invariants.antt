use Rattle.engine_tests.proofs.rounds_in_turn.working.crews.by_crew.Given as goal

abbrev pub ghosts-by_crew_named : goal.ghosts-by_crew_named
ghosts-by_crew_named g a = record { desk = a.errands.now }
