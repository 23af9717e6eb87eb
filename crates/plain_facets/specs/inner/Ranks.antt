-- Where the cells of keys stand, column by column.
use Rattle.std.specs.Prelude.{ℕ, List, map, slice_get, unwrap_or}
use Rattle.cell_value.specs.declared.cell.Cell.{Cell}
use Rattle.cell_value.specs.declared.cell.Cell.TheVariants.{Null}
use Rattle.plain_facets.specs.Facets.{place_among}

-- the cell of a key at a place
abbrev pub cell_of_key : ℕ → List Cell → Cell
cell_of_key at key = unwrap_or (slice_get key at) Null

-- where the cells of keys at the place of a field stand among those of the field
abbrev pub column_of : List (List Cell) → ℕ × List Cell → List ℕ
column_of keys field = map (λ key. place_among field.1 (cell_of_key field.0 key)) keys

-- what columns have at a place
abbrev pub row_of : List (List ℕ) → ℕ → List ℕ
row_of columns at = map (λ column. unwrap_or (slice_get column at) 0) columns

-- a key behind what columns have at its place
abbrev pub ranked : List (List ℕ) → ℕ × List Cell → List ℕ × List Cell
ranked columns key = (row_of columns key.0, key.1)
