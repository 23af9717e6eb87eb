use Rattle.std.proofs.Common.{◌≡◌, drop, map}
use Rattle.std.specs.List.{fold}
use Rattle.vl_compose.specs.Shown.{unit_shown}
use Rattle.chart_plan.specs.Grids.{with_grids, grids_of}
use Rattle.chart_plan.proofs.grids.grids_of.Given as goal

abbrev pub invariant-loop-unit : goal.invariant-loop-unit
invariant-loop-unit l =
    fold (with_grids (map unit_shown l.units)) l.grids (map unit_shown (drop l.unit-index l.units)) ≡ grids_of (map unit_shown l.units)
