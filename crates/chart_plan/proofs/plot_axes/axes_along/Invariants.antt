use Rattle.std.proofs.Common.{◌≡◌, drop, map}
use Rattle.std.specs.List.{enumerate_from, fold}
use Rattle.vl_compose.specs.Shown.{unit_shown}
use Rattle.chart_plan.specs.Plots.{with_axis, axes_along}
use Rattle.chart_plan.proofs.plot_axes.axes_along.Given as goal

abbrev pub invariant-loop-number : goal.invariant-loop-number
invariant-loop-number l =
    fold (with_axis l.channel l.plot l.facets (map unit_shown l.units)) l.axes (enumerate_from l.number (drop l.number l.scales))
    ≡ axes_along l.channel l.plot l.facets l.scales (map unit_shown l.units)
