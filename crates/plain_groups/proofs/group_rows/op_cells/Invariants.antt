use Rattle.std.proofs.Common.{◌≡◌, take, Some}
use Rattle.cell_value.specs.Datum.{cell_at}
use Rattle.plain_groups.specs.GroupRows.{op_cells}
use Rattle.plain_groups.specs.inner.Places.{rows_at}
use Rattle.plain_groups.proofs.group_rows.op_cells.Given as goal

abbrev pub invariant-loop-op : goal.invariant-loop-op
invariant-loop-op l = op_cells cell_at (take l.op-index l.ops) (rows_at l.rows l.places) ≡ Some l.given
