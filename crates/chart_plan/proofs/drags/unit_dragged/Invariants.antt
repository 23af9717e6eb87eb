use Rattle.std.proofs.Common.{◌≡◌, ◌++◌, drop}
use Rattle.std.specs.List.{filter_map}
use Rattle.vl_compose.specs.Shown.{unit_shown}
use Rattle.chart_plan.specs.Selections.{drag_of}
use Rattle.chart_plan.proofs.drags.unit_dragged.Given as goal

abbrev pub invariant-loop-code : goal.invariant-loop-code
invariant-loop-code l =
    l.out ++ filter_map (drag_of (unit_shown l.unit)) (drop l.code-index l.codes) ≡ filter_map (drag_of (unit_shown l.unit)) l.codes
