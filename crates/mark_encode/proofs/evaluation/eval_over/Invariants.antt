use Rattle.mark_encode.proofs.evaluation.eval_over.Given as goal

abbrev pub ghosts-eval_counted : goal.ghosts-eval_counted
ghosts-eval_counted g a = record { name = a.blank.name; parts = a.blank.parts }
