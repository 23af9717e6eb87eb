use Rattle.std.proofs.Common.{◌≡◌, drop, map}
use Rattle.std.specs.Prelude.{find}
use Rattle.vl_compose.specs.Shown.{unit_shown}
use Rattle.chart_plan.specs.Grids.{field_order, is_below}
use Rattle.chart_plan.proofs.grids.field_order.Given as goal

abbrev pub invariant-loop-unit : goal.invariant-loop-unit
invariant-loop-unit l =
    field_order (find (is_below l.number) (map unit_shown (drop l.unit-index l.units))) l.channel l.definition
    ≡ field_order (find (is_below l.number) (map unit_shown l.units)) l.channel l.definition
