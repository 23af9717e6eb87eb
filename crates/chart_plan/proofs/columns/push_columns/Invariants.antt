use Rattle.std.proofs.Common.{◌≡◌, ◌++◌, map}
use Rattle.std.specs.Vec.Iter.{into_iter_items}
use Rattle.chart_plan.specs.Columns.{column}
use Rattle.chart_plan.proofs.columns.push_columns.Given as goal

abbrev pub invariant-loop-cell : goal.invariant-loop-cell
invariant-loop-cell l =
    l.out ++ map (column l.unit) (into_iter_items l.cell-iterator) ≡ l.fn.out ++ map (column l.unit) l.fn.cells
