use Rattle.std.proofs.Common.{◌≡◌, drop, map}
use Rattle.chart_plan.specs.Views.{in_row, tree_of}
use Rattle.chart_plan.proofs.ViewLemmas.{behind}
use Rattle.chart_plan.proofs.views.+walk.Given as goal

abbrev pub invariant-row_trees-loop-view : goal.invariant-row_trees-loop-view
invariant-row_trees-loop-view l =
    behind l.out (in_row (map tree_of (drop l.view-index l.view-items)) l.counted) ≡ in_row (map tree_of l.view-items) l.fn.counted
