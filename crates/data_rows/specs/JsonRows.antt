-- Rows that are given as JSON.
use Rattle.std.specs.Prelude.{◌≡◌, refl, ℕ, suc, not, Bool, true, false, Option, Some, None, Result, List, [], ◌∷◌, map, find, codes}
use Rattle.std.specs.Option.{option_map}
use Rattle.std.specs.List.{filter}
use Rattle.std.specs.Str.{bytes_eq}
use Rattle.json_exact.specs.declared.json.Json.{Json, Json-F, out-Json}
use Rattle.json_exact.specs.declared.json.Json.TheOpen as level
use Rattle.json_exact.specs.declared.json.Json.TheVariants as json
use Rattle.json_exact.specs.declared.json.Member.{Member}
use Rattle.json_exact.specs.Values.{values_of}
use Rattle.cell_value.specs.declared.cell.Cell.{Cell}
use Rattle.cell_value.specs.declared.cell.Cell.TheVariants as cell
use Rattle.cell_value.specs.Row.{Cells, row_of}
use Rattle.cell_value.specs.Datum.{id_name}
use Rattle.data_rows.specs.declared.kinds.ParseKind.{ParseKind}
use Rattle.data_rows.specs.Outcome.{Bad, RowRead, all_rows, unless_bad}
use Rattle.data_rows.specs.Parse.{kind_of, parsed_as}

-- the cell of a value; a list or an object in a row is read as null, whatever it holds
abbrev pub cell_in : Json-F Json Member → Cell
cell_in (level.Flag b) = cell.Flag b
cell_in (level.Number n) = cell.Number n
cell_in (level.Text t) = cell.Text t
cell_in other = cell.Null

-- whether a value is a number out of range
abbrev pub is_huge : Json-F Json Member → Bool
is_huge level.Huge = true
is_huge other = false

-- the cells that an object gives to its row; a member of the name under which every row has its id is dropped
abbrev pub cells_of : List Member → List (List ℕ × Cell)
cells_of members =
    map (λ (m : Member). (m.name, cell_in (out-Json m.value))) (filter (λ (m : Member). not (bytes_eq m.name id_name)) members)

-- the cells of a value under their names: those of an object; any other value stands under `data`
abbrev pub fields_in : Json-F Json Member → List (List ℕ × Cell)
fields_in (level.Object members) = cells_of members
fields_in other = (codes "data", cell_in other) ∷ []

-- the row of a value of which nothing is parsed
abbrev pub row_of_json : Json → Cells
row_of_json tree = row_of (fields_in (out-Json tree))

-- The first field that can't be read, None where all can be: a number out of range; a list is no row at all.
abbrev pub bad_field_in : Json-F Json Member → Option (List ℕ)
bad_field_in (level.List items) = Some []
bad_field_in level.Huge = Some (codes "data")
bad_field_in (level.Object members) = option_map (λ (m : Member). m.name) (find (λ (m : Member). is_huge (out-Json m.value)) members)
bad_field_in other = None

abbrev pub bad_field : Json → Option (List ℕ)
bad_field tree = bad_field_in (out-Json tree)

-- a bad row, if this is one; else what comes later
abbrev pub bad_or : ℕ → Option (List ℕ) → Option Bad → Option Bad
bad_or n (Some field) later = Some (n, field)
bad_or n None later = later

-- the first row that can't be read, by its number counted from n, with its first such field
abbrev pub first_bad : ℕ → List Json → Option Bad
first_bad n [] = None
first_bad n (tree ∷ trees) = bad_or n (bad_field tree) (first_bad (suc n) trees)

-- each cell parsed as the kind of its name says
abbrev pub parsed_fields : List (List ℕ × ParseKind) → List (List ℕ × Cell) → List (List ℕ × Cell)
parsed_fields parse fields = map (λ field. (field.0, parsed_as (kind_of parse field.0) field.1)) fields

-- the row of a value, or its first field that can't be read
abbrev pub json_row : List (List ℕ × ParseKind) → Json → RowRead
json_row parse tree = unless_bad (bad_field tree) (row_of (parsed_fields parse (fields_in (out-Json tree))))

-- the rows of a tree, one for each value that it lists, or the first that is bad
abbrev pub rows_of_json : List (List ℕ × ParseKind) → Json → Result (List Cells) Bad
rows_of_json parse tree = all_rows 0 (map (json_row parse) (values_of tree))

-- The rules at work.

a_list_is_no_row : bad_field (json.List []) ≡ Some []
unfolding out-Json denote.Hole.Carrier.out
a_list_is_no_row = refl

a_number_out_of_range : bad_field_in (level.Object (record { name = codes "a"; value = json.Null } ∷ record {
  name = codes "b";
  value = json.Huge;
} ∷ [])) ≡ Some (codes "b")
unfolding out-Json denote.Hole.Carrier.out
a_number_out_of_range = refl

a_nested_member : cells_of (record { name = codes "a"; value = json.List (json.Huge ∷ []) } ∷ record {
  name = codes "_vgsid_";
  value = json.Flag true;
} ∷ []) ≡ (codes "a", cell.Null) ∷ []
unfolding out-Json denote.Hole.Carrier.out
a_nested_member = refl
