use Rattle.std.proofs.Common.{◌≡◌, ◌++◌, drop, map}
use Rattle.std.specs.List.{flat_map}
use Rattle.vl_compose.specs.Shown.{unit_shown}
use Rattle.chart_plan.specs.Columns.{columns_in}
use Rattle.chart_plan.proofs.columns.columns_of.Given as goal

abbrev pub invariant-loop-unit : goal.invariant-loop-unit
invariant-loop-unit l =
    l.out ++ flat_map (columns_in l.continuous l.channel l.sharing) (map unit_shown (drop l.unit-index l.units))
    ≡ flat_map (columns_in l.continuous l.channel l.sharing) (map unit_shown l.units)
