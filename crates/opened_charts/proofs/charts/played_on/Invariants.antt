use Rattle.opened_charts.proofs.charts.played_on.Given as goal

abbrev pub ghosts-played_under : goal.ghosts-played_under
ghosts-played_under _ a = record { name = a.blank.name; parts = a.blank.parts }
