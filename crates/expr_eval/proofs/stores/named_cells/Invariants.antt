use Rattle.std.proofs.Common.{◌≡◌, ◌≤◌, ◌+◌, ◌++◌, drop}
use Rattle.expr_eval.specs.inner.Stores.{named_cells}
use Rattle.expr_eval.proofs.stores.named_cells.Given as goal

abbrev pub invariant-loop-entry : goal.invariant-loop-entry
invariant-loop-entry g l =
    (l.cells ++ named_cells (g.R.RowReader.cells l.row) (drop l.entry-index l.entries) ≡ named_cells (g.R.RowReader.cells l.row) l.entries)
    × (l.initial.steps ≤ l.steps) × (l.steps ≤ l.initial.steps + l.entry-index)
