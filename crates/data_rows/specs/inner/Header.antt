-- The columns of a header by their names, and the cells that stand under them.
use Rattle.std.specs.Prelude.{ℕ, suc, Bool, true, false, ℤ, Option, Some, None, List, [], ◌∷◌, ◌++◌, map, zip, find, fold, unwrap_or}
use Rattle.std.specs.Prelude.{slice_get, String, string_bytes, if◌then◌else◌}
use Rattle.std.specs.declared.alloc.Global.{Global}
use Rattle.std.specs.Option.{option_map}
use Rattle.std.specs.Ordering.{nat_cmp}
use Rattle.std.specs.Cmp.Lexicographic.{slice_cmp}
use Rattle.std.specs.FinMap.{put}
use Rattle.std.specs.Str.{bytes_eq}
use Rattle.cell_value.specs.declared.cell.Cell.{Cell}
use Rattle.cell_value.specs.declared.cell.Cell.TheVariants as cell
use Rattle.cell_value.specs.Datum.{id_name}
use Rattle.data_rows.specs.declared.kinds.ParseKind.{ParseKind}
use Rattle.data_rows.specs.Parse.{number_parsed_as, parsed_as}
use Rattle.data_rows.specs.CsvRows.{Column}

-- a column whose cells rows have: its place in a record, and as what its field is parsed
abbrev pub KeptColumn : Type 0
KeptColumn = ℕ × Option ParseKind

-- the column at a place under its name, unless every row has its id there
abbrev pub kept_at : ℕ → Column → List (List ℕ × KeptColumn)
kept_at n column = if bytes_eq column.0 id_name then [] else (column.0, (n, column.1)) ∷ []

-- the columns whose cells rows have, counted from n
abbrev pub kept_from : ℕ → List Column → List (List ℕ × KeptColumn)
kept_from n [] = []
kept_from n (column ∷ others) = kept_at n column ++ kept_from (suc n) others

-- entries in the order of their names, in which more are put: of several under one name the last
abbrev pub put_all : {X : Type 0} → List (List ℕ × X) → List (List ℕ × X) → List (List ℕ × X)
put_all all more = fold (λ all entry. put (slice_cmp nat_cmp) entry.0 entry.1 all) all more

-- a column under a string, as one under the string's bytes
abbrev pub named : String Global × KeptColumn → List ℕ × KeptColumn
named entry = (string_bytes entry.0, entry.1)

-- the columns whose cells rows have, in the order of their names: of several of one name the last
abbrev pub kept_columns : List Column → List (List ℕ × KeptColumn)
kept_columns columns = put_all [] (kept_from 0 columns)

-- what is known of a field as a number: None where it is none, None within where it is out of range
abbrev pub NumberRead : Type 0
NumberRead = Option (Option ℤ)

abbrev pub is_out : NumberRead → Bool
is_out (Some None) = true
is_out other = false

-- the name of the first column whose field is a number out of range
abbrev pub bad_column : List Column → List NumberRead → Option (List ℕ)
bad_column columns numbers = option_map (λ at. at.0.0) (find (λ at. is_out at.1) (zip columns numbers))

-- the cell of a field that is no number
abbrev pub text_or_null : Option ParseKind → List ℕ → Cell
text_or_null kind [] = cell.Null
text_or_null kind text = parsed_as kind (cell.Text text)

-- the cell of a field by what is known of it as a number
abbrev pub cell_read : Option ParseKind → List ℕ → NumberRead → Cell
cell_read kind text None = text_or_null kind text
cell_read kind text (Some None) = cell.Null
cell_read kind text (Some (Some n)) = number_parsed_as kind n

-- the cell of a kept column in a record of these fields, as numbers these
abbrev pub kept_cell : List (List ℕ) → List NumberRead → KeptColumn → Cell
kept_cell fields numbers column =
    cell_read column.1 (unwrap_or (slice_get fields column.0) []) (unwrap_or (slice_get numbers column.0) None)

-- the cells of kept columns under their names
abbrev pub cells_from : List (List ℕ) → List NumberRead → List (List ℕ × KeptColumn) → List (List ℕ × Cell)
cells_from fields numbers kept = map (λ entry. (entry.0, kept_cell fields numbers entry.1)) kept
