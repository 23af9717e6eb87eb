use Rattle.std.proofs.Common.{◌≡◌, drop, map}
use Rattle.std.specs.List.{fold}
use Rattle.vl_compose.specs.Shown.{unit_shown}
use Rattle.chart_plan.specs.Plots.{with_plot, plot_numbers}
use Rattle.chart_plan.proofs.plots.plot_numbers.Given as goal

abbrev pub invariant-loop-unit : goal.invariant-loop-unit
invariant-loop-unit l =
    fold with_plot l.numbers (map unit_shown (drop l.unit-index l.units)) ≡ plot_numbers (map unit_shown l.units)
