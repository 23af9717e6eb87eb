use Rattle.std.proofs.Common.{◌≡◌, drop, find}
use Rattle.selection_events.specs.Places.{has_unit}
use Rattle.selection_events.proofs.places.plot_with.Given as goal

abbrev pub invariant-loop-plot : goal.invariant-loop-plot
invariant-loop-plot l = find (has_unit l.unit) (drop l.plot-index l.plots) ≡ find (has_unit l.unit) l.plots
