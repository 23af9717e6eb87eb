use Rattle.std.proofs.Common.{◌≡◌, ◌++◌, drop, map}
use Rattle.vl_compose.specs.Shown.{unit_shown}
use Rattle.chart_plan.specs.Plots.{units_of_plot}
use Rattle.chart_plan.proofs.plots.units_of_plot.Given as goal

abbrev pub invariant-loop-unit : goal.invariant-loop-unit
invariant-loop-unit l =
    l.out ++ units_of_plot l.plot (map unit_shown (drop l.unit-index l.units)) ≡ units_of_plot l.plot (map unit_shown l.units)
