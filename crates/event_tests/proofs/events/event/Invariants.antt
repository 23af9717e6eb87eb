use Rattle.event_tests.proofs.events.event.Given as goal

abbrev pub ghosts-event_in : goal.ghosts-event_in
ghosts-event_in a = record { name = a.blank.name; parts = a.blank.parts }
