use Rattle.std.proofs.Common.{◌≡◌, ◌++◌, drop, map}
use Rattle.vl_compose.specs.Shown.{unit_shown}
use Rattle.chart_plan.specs.Plots.{plot_by}
use Rattle.chart_plan.proofs.plots.plots_at.Given as goal

abbrev pub invariant-loop-number : goal.invariant-loop-number
invariant-loop-number l =
    l.plots ++ map (plot_by l.config l.scales (map unit_shown l.units)) (drop l.number-index l.numbers)
    ≡ map (plot_by l.config l.scales (map unit_shown l.units)) l.numbers
