use Rattle.plain_engine.proofs.events.params_after.Given as goal

abbrev pub ghosts-params_counted : goal.ghosts-params_counted
ghosts-params_counted a = record { name = a.blank.name; parts = a.blank.parts }
