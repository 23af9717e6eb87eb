use Rattle.std.proofs.Common.{◌≡◌, ◌++◌, drop, map}
use Rattle.vl_compose.specs.Shown.{unit_shown}
use Rattle.chart_plan.specs.Plan.{unit_by}
use Rattle.chart_plan.proofs.plan.units_named.Given as goal

abbrev pub invariant-loop-unit : goal.invariant-loop-unit
invariant-loop-unit l =
    l.plans ++ map (unit_by l.names.params.now l.scales) (map unit_shown (drop l.unit-index l.units))
    ≡ map (unit_by l.names.params.now l.scales) (map unit_shown l.units)
