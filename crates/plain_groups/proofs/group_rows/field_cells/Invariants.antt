use Rattle.std.proofs.Common.{◌≡◌, ◌++◌, drop}
use Rattle.cell_value.specs.Datum.{cell_at}
use Rattle.plain_groups.specs.GroupRows.{field_cells}
use Rattle.plain_groups.proofs.group_rows.field_cells.Given as goal

abbrev pub invariant-loop-field : goal.invariant-loop-field
invariant-loop-field l = l.cells ++ field_cells (cell_at l.row) (drop l.field-index l.fields) ≡ field_cells (cell_at l.row) l.fields
