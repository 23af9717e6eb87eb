use Rattle.std.proofs.Common.{◌≡◌, ◌++◌, drop}
use Rattle.cell_value.specs.Datum.{cell_at}
use Rattle.plain_orders.specs.inner.Entries.{sort_cells}
use Rattle.plain_orders.proofs.entries.sort_cells.Given as goal

abbrev pub invariant-loop-by : goal.invariant-loop-by
invariant-loop-by l = l.cells ++ sort_cells (drop l.by-index l.sort) (cell_at l.row) ≡ sort_cells l.sort (cell_at l.row)
