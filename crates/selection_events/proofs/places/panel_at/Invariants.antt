use Rattle.std.proofs.Common.{◌≡◌, drop}
use Rattle.selection_events.specs.Places.{is_plot_at, panel_at}
use Rattle.selection_events.specs.inner.Last.{last_place}
use Rattle.selection_events.proofs.places.panel_at.Given as goal

abbrev pub invariant-loop-at : goal.invariant-loop-at
invariant-loop-at l = last_place (is_plot_at l.x l.y) l.at (drop l.at l.panels) l.found ≡ panel_at l.scene l.x l.y
