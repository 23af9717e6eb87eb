use Rattle.std.proofs.Common.{◌≡◌, ◌++◌, drop, map}
use Rattle.vl_compose.specs.Shown.{unit_shown}
use Rattle.chart_plan.specs.Grids.{units_below}
use Rattle.chart_plan.proofs.grids.units_below.Given as goal

abbrev pub invariant-loop-unit : goal.invariant-loop-unit
invariant-loop-unit l =
    l.out ++ units_below l.number (map unit_shown (drop l.unit-index l.units)) ≡ units_below l.number (map unit_shown l.units)
