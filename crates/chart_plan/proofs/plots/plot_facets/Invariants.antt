use Rattle.std.proofs.Common.{◌≡◌, drop, map}
use Rattle.vl_compose.specs.Shown.{unit_shown}
use Rattle.chart_plan.specs.Plots.{plot_facets}
use Rattle.chart_plan.proofs.plots.plot_facets.Given as goal

abbrev pub invariant-loop-unit : goal.invariant-loop-unit
invariant-loop-unit l =
    plot_facets l.plot (map unit_shown (drop l.unit-index l.units)) ≡ plot_facets l.plot (map unit_shown l.units)
