use Rattle.pipeline.proofs.crewed.handle_beside.Given as goal

abbrev pub ghosts-handle_crewed : goal.ghosts-handle_crewed
ghosts-handle_crewed g a = record { desk = a.desk.errands }
