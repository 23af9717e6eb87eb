use Rattle.mark_encode.proofs.evaluation.field_over.Given as goal

abbrev pub ghosts-field_counted : goal.ghosts-field_counted
ghosts-field_counted g a = record { name = a.blank.name; parts = a.blank.parts }
