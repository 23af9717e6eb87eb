use Rattle.std.proofs.Common.{◌≡◌, ◌++◌, map, drop}
use Rattle.cell_value.specs.Datum.{cell_at}
use Rattle.plain_groups.specs.GroupRows.{read_by}
use Rattle.plain_groups.specs.inner.Places.{rows_at}
use Rattle.plain_groups.proofs.group_rows.column.Given as goal

abbrev pub invariant-loop-place : goal.invariant-loop-place
invariant-loop-place l =
    l.cells ++ map (λ row. read_by l.op (cell_at row)) (rows_at l.rows (drop l.place-index l.places))
    ≡ map (λ row. read_by l.op (cell_at row)) (rows_at l.rows l.places)
