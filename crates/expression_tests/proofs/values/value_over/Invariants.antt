use Rattle.expression_tests.proofs.values.value_over.Given as goal

abbrev pub ghosts-counted : goal.ghosts-counted
ghosts-counted _ a = record { name = a.blank.name; parts = a.blank.parts }
