-- Rows behind references.
use Rattle.std.specs.Prelude.{ℕ, ◌≤◌, List, map, filter, All}
use Rattle.std.specs.Borrow.{Bor}
use Rattle.cell_value.specs.declared.cell.Cell.{Cell}
use Rattle.cell_value.specs.declared.state.Keyed.{Keyed}
use Rattle.cell_value.specs.Datum.{Datum, datum_of}
use Rattle.cell_value.specs.State.{greatest_id}
use Rattle.plain_facets.specs.Facets.{key_of, is_key}

-- the rows, as they are read
abbrev pub data_of : List (Bor Keyed) → List Datum
data_of rows = map (λ row. datum_of row.now) rows

-- each has an id that a row may have
abbrev pub HaveIds : List (Bor Keyed) → Type 0
HaveIds rows = All (λ row. row.now.key.id ≤ greatest_id) rows

-- the rows themselves
abbrev pub rows_shown : List (Bor Keyed) → List Keyed
rows_shown rows = map (λ row. row.now) rows

-- those that have these cells in the fields
abbrev pub part_shown : List (List ℕ) → List Cell → List (Bor Keyed) → List (Bor Keyed)
part_shown fields key rows = filter (λ (row : Bor Keyed). is_key (key_of fields (datum_of row.now)) key) rows
