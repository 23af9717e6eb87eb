-- Rows that are given as CSV.
use Rattle.std.specs.Prelude.{◌≡◌, refl, ℕ, ◌&&◌, nat_eq, false, ℤ, Option, Some, None, Result, Ok, Err, List, [], ◌∷◌, ◌++◌, map, length}
use Rattle.std.specs.Prelude.{zip, codes, if◌then◌else◌}
use Rattle.std.specs.Result.{result_map_both}
use Rattle.std.specs.Str.{bytes_eq, is_utf8, chars}
use lib.Utf8.{encode}
use Rattle.std.specs.List.{list_all}
use Rattle.std.specs.Fmt.{digits}
use Rattle.csv.specs.Machine.{next_record}
use Rattle.csv.specs.Reading.{records, records_from, default_config, strip_bom}
use Rattle.fixed_num.specs.Number.{rounded, floor_quotient}
use Rattle.fixed_num.specs.JsonNumber.{decimal_value, scaled}
use Rattle.fixed_num.specs.Front.{decimal_at, parts_at, whole_at, fraction_at, exponent_at, signed_at, digits_at, leading_digits, after_digits}
use Rattle.fixed_num.specs.Decimal.{spelling, size_spelling, fraction_spelling, fraction_digits}
use Rattle.cell_value.specs.declared.cell.Cell.{Cell}
use Rattle.cell_value.specs.declared.cell.Cell.TheVariants as cell
use Rattle.cell_value.specs.Row.{Cells, row_of}
use Rattle.cell_value.specs.Datum.{id_name}
use Rattle.data_rows.specs.declared.kinds.ParseKind.{ParseKind}
use Rattle.data_rows.specs.declared.kinds.ParseKind.TheVariants as kind
use Rattle.data_rows.specs.Outcome.{Bad, RowRead, all_rows}
use Rattle.data_rows.specs.Parse.{kind_of, number_of, number_parsed_as, parsed_as}

-- the cell of a field that isn't empty: a number, which may be out of range, or else a text
abbrev pub cell_by : Option ParseKind → List ℕ → Option (Option ℤ) → Option Cell
cell_by kind text None = Some (parsed_as kind (cell.Text text))
cell_by kind text (Some None) = None
cell_by kind text (Some (Some n)) = Some (number_parsed_as kind n)

-- the cell of a field, parsed; None where it is a number out of range; an empty field is null
abbrev pub field_cell : Option ParseKind → List ℕ → Option Cell
field_cell kind [] = Some cell.Null
field_cell kind text = cell_by kind text (number_of text)

-- cells before which another stands, unless it has the name under which every row has its id
abbrev pub with_field : List ℕ → Cell → List (List ℕ × Cell) → List (List ℕ × Cell)
with_field name c others = if bytes_eq name id_name then others else (name, c) ∷ others

-- the cells under their names, or the first name whose field is out of range
abbrev pub all_fields : List (List ℕ × Option Cell) → Result (List (List ℕ × Cell)) (List ℕ)
all_fields [] = Ok []
all_fields ((name, Some c) ∷ others) = result_map_both (with_field name c) (λ bad. bad) (all_fields others)
all_fields ((name, None) ∷ others) = Err name

-- a column: its name, and as what its field is parsed
abbrev pub Column : Type 0
Column = List ℕ × Option ParseKind

abbrev pub columns_of : List (List ℕ × ParseKind) → List (List ℕ) → List Column
columns_of parse names = map (λ name. (name, kind_of parse name)) names

-- the cell of each field under the name of its column
abbrev pub cells_under : List Column → List (List ℕ) → List (List ℕ × Option Cell)
cells_under columns fields = map (λ at. (at.0.0, field_cell at.0.1 at.1)) (zip columns fields)

-- The row of the fields of a record, of several cells under one name the last; or its first field that is out of range. A record of
-- another length than the header, or with bytes that are no UTF-8, is bad as a whole.
abbrev pub record_row : List Column → List (List ℕ) → RowRead
record_row columns fields =
    if list_all is_utf8 fields && nat_eq (length fields) (length columns)
    then result_map_both row_of (λ bad. bad) (all_fields (cells_under columns fields))
    else Err []

-- the rows of records, the first of which is the header, or the first row that is bad: a bad header counts as the first
abbrev pub rows_of_records : List (List ℕ × ParseKind) → List (List (List ℕ)) → Result (List Cells) Bad
rows_of_records parse [] = Ok []
rows_of_records parse (names ∷ others) =
    if list_all is_utf8 names then all_rows 0 (map (record_row (columns_of parse names)) others) else Err (0, [])

-- the rows of bytes, or the first that is bad
abbrev pub rows_of_csv : List (List ℕ × ParseKind) → List ℕ → Result (List Cells) Bad
rows_of_csv parse bytes = rows_of_records parse (records default_config (strip_bom bytes))

-- The rules at work.

two_columns : all_fields (cells_under ((codes "a", None) ∷ (codes "b", Some kind.Boolean) ∷ []) (codes "x" ∷ codes "0" ∷ []))
    ≡ Ok ((codes "a", cell.Text (codes "x")) ∷ (codes "b", cell.Flag false) ∷ [])
unfolding number_of decimal_at parts_at whole_at fraction_at exponent_at signed_at
    digits_at leading_digits after_digits decimal_value scaled rounded floor_quotient spelling size_spelling fraction_spelling fraction_digits digits
two_columns = refl

an_id_is_dropped : all_fields (cells_under ((codes "_vgsid_", None) ∷ []) ([] ∷ [])) ≡ Ok []
an_id_is_dropped = refl

the_first_column_out_of_range : all_fields ((codes "a", field_cell None []) ∷ (codes "b", field_cell None (codes "1e16")) ∷ (codes "c", None) ∷ [])
    ≡ Err (codes "b")
unfolding number_of decimal_at parts_at whole_at fraction_at exponent_at signed_at
    digits_at leading_digits after_digits decimal_value scaled rounded floor_quotient
the_first_column_out_of_range = refl

no_record : rows_of_csv [] (10 ∷ 13 ∷ 10 ∷ []) ≡ Ok []
unfolding records_from next_record strip_bom
no_record = refl

a_short_record : rows_of_csv [] (codes "a,b" ++ (10 ∷ []) ++ codes "1") ≡ Err (0, [])
unfolding records_from next_record strip_bom is_utf8 chars encode
a_short_record = refl
