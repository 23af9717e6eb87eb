-- What contracts see of shown definitions that are lent.
use Rattle.std.specs.Prelude.{List, map}
use Rattle.unit_plan.specs.declared.shows.ShownHere.{ShownHere}
use Rattle.unit_plan.specs.Shows.{ShownAt}

abbrev pub show_shown : ShownHere → ShownAt
show_shown s = record { channel = s.channel; shows = s.shows.now }

abbrev pub shows_shown : List ShownHere → List ShownAt
shows_shown shows = map show_shown shows
