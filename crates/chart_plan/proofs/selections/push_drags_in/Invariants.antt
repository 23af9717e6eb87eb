use Rattle.std.proofs.Common.{◌≡◌, ◌++◌, drop}
use Rattle.std.specs.List.{filter_map}
use Rattle.chart_plan.specs.Selections.{drag_in}
use Rattle.chart_plan.proofs.selections.push_drags_in.Given as goal

abbrev pub invariant-loop-code : goal.invariant-loop-code
invariant-loop-code l =
    l.out ++ filter_map (drag_in l.plot l.seen) (drop l.code-index l.codes) ≡ l.fn.out ++ filter_map (drag_in l.plot l.seen) l.codes
