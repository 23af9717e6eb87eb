use Rattle.std.proofs.Common.{◌≡◌, ◌++◌, drop, map}
use Rattle.vl_compose.specs.Shown.{unit_shown}
use Rattle.vl_compose.specs.Views.{unit_view}
use Rattle.vl_compose.proofs.views.views_among.Given as goal

abbrev pub invariant-loop-unit : goal.invariant-loop-unit
invariant-loop-unit l = l.views ++ map unit_view (drop l.unit-index (map unit_shown l.units)) ≡ map unit_view (map unit_shown l.units)
