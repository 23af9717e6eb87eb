use Rattle.std.proofs.Common.{◌≡◌, ◌++◌, drop}
use Rattle.std.specs.List.{flat_map}
use Rattle.chart_plan.specs.inner.Marked.{drags_along, unit_there}
use Rattle.chart_plan.proofs.selections.all_drags.Given as goal

abbrev pub invariant-loop-plot : goal.invariant-loop-plot
invariant-loop-plot l =
    l.out ++ flat_map (drags_along l.scales (unit_there l.units) l.places l.codes) (drop l.plot-index l.plots)
    ≡ flat_map (drags_along l.scales (unit_there l.units) l.places l.codes) l.plots
