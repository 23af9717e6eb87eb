use Rattle.std.proofs.Common.{◌≡◌, drop, map}
use Rattle.vl_compose.specs.Shown.{unit_shown}
use Rattle.chart_plan.specs.Plots.{title_of}
use Rattle.chart_plan.proofs.plots.title_lent.Given as goal

abbrev pub invariant-loop-unit : goal.invariant-loop-unit
invariant-loop-unit l =
    title_of l.plot (map unit_shown (drop l.unit-index l.units)) ≡ title_of l.plot (map unit_shown l.units)
