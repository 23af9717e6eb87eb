use Rattle.std.proofs.Common.{◌≡◌, ◌++◌, map, drop}
use Rattle.cell_value.specs.Datum.{cell_at}
use Rattle.row_keys.proofs.row_key.keys_at.Given as goal

abbrev pub invariant-loop-field : goal.invariant-loop-field
invariant-loop-field l = l.cells ++ map (cell_at l.row) (drop l.field-index l.fields) ≡ map (cell_at l.row) l.fields
