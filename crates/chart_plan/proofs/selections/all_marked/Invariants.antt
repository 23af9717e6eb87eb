use Rattle.std.proofs.Common.{◌≡◌, ◌++◌, drop, map}
use Rattle.std.specs.List.{enumerate_from, filter_map}
use Rattle.vl_compose.specs.Shown.{unit_shown}
use Rattle.chart_plan.specs.inner.Marked.{all_marked, param_marked, unit_there}
use Rattle.chart_plan.proofs.selections.all_marked.Given as goal

abbrev pub invariant-loop-number : goal.invariant-loop-number
invariant-loop-number l =
    l.out ++ filter_map (param_marked l.marks (map unit_shown l.units) (unit_there l.units) l.scales l.plots) (enumerate_from l.number (drop l.number l.params))
    ≡ all_marked l.marks (map unit_shown l.units) (unit_there l.units) l.scales l.plots l.params
