use Rattle.std.proofs.Common.{◌≡◌, ◌++◌, drop, map}
use Rattle.vl_compose.specs.Shown.{unit_shown}
use Rattle.chart_plan.specs.inner.Marked.{unit_marks}
use Rattle.chart_plan.proofs.marked.marks_of.Given as goal

abbrev pub invariant-loop-unit : goal.invariant-loop-unit
invariant-loop-unit l =
    l.marks ++ map (unit_marks l.count) (map unit_shown (drop l.unit-index l.units)) ≡ map (unit_marks l.count) (map unit_shown l.units)
