use Rattle.run_tests.proofs.engine.reply.Given as goal

abbrev pub ghosts-applied : goal.ghosts-applied
ghosts-applied a = record { name = a.blank.name; parts = a.blank.parts }
