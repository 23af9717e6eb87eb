-- The sources of a Vega specification: the data sets without a `source`, and what they give.
use Rattle.std.specs.Prelude.{◌≡◌, refl, ℕ, Bool, true, false, Option, Some, None, List, [], ◌∷◌, ◌++◌, map, flat_map, unwrap_or, is_some}
use Rattle.std.specs.Prelude.{Result, Ok, Err}
use Rattle.std.specs.Prelude.{if◌then◌else◌}
use Rattle.std.specs.Option.{option_map_or, option_and_then}
use Rattle.std.specs.Result.{result_map_both}
use Rattle.fixed_num.specs.Steps.{◌>>=◌}
use Rattle.json_exact.specs.declared.json.Json.{Json}
use Rattle.chart_io.specs.Outside.{Files}
use Rattle.cell_value.specs.Row.{Cells}
use Rattle.data_rows.specs.declared.kinds.ParseKind.{ParseKind}
use Rattle.data_rows.specs.declared.kinds.ParseKind.TheVariants as kind
use Rattle.data_rows.specs.Outcome.{Bad}
use Rattle.data_rows.specs.JsonRows.{rows_of_json}
use Rattle.data_rows.specs.CsvRows.{rows_of_csv}
use Rattle.vega_spec.specs.declared.data.DataSet.{DataSet}
use Rattle.vega_spec.specs.declared.data.Format.{Format}
use Rattle.vega_spec.specs.declared.data.FormatKind.{FormatKind}
use Rattle.vega_spec.specs.declared.data.FormatKind.TheVariants as format
use Rattle.vega_spec.specs.declared.data.ParseKind.{ParseKind as VegaKind}
use Rattle.vega_spec.specs.declared.data.ParseKind.TheVariants as vega
use Rattle.vega_spec.specs.declared.spec.Group.{Group, Group-F, fold-Group}
use Rattle.vega_spec.specs.declared.spec.VgMark.{VgMark, VgMark-F, fold-VgMark}
use Rattle.vega_spec.specs.declared.spec.VgSpec.{VgSpec}
use Rattle.chart_opening.specs.declared.refusal.Refusal.{Refusal}
use Rattle.chart_opening.specs.declared.refusal.Refusal.TheVariants as refusal
use Rattle.chart_opening.specs.Texts.{Reading}
use Rattle.chart_opening.specs.Files.{bytes_of, tree_of_file}

-- a data set, where it is a source
abbrev pub own_set : DataSet → List DataSet
own_set d = if is_some d.source then [] else d ∷ []

-- the sources among some data sets
abbrev pub own_sets : List DataSet → List DataSet
own_sets sets = flat_map own_set sets

-- those of an object, from those of the marks in it: its own come first
abbrev pub sets_here : Group-F (List DataSet) (List DataSet) → List DataSet
sets_here g = own_sets (unwrap_or g.data_ []) ++ flat_map (λ sets. sets) (unwrap_or g.marks [])

-- a mark has those that it has as a group
abbrev pub mark_sets_here : VgMark-F (List DataSet) (List DataSet) → List DataSet
mark_sets_here m = m.group

-- the sources of an object and of the groups in it
abbrev pub sets_in : Group → List DataSet
sets_in = fold-Group (List DataSet) (List DataSet) sets_here mark_sets_here

-- those of a mark
abbrev pub mark_sets : VgMark → List DataSet
mark_sets = fold-VgMark (List DataSet) (List DataSet) sets_here mark_sets_here

-- the sources of a specification, in their order
abbrev pub source_sets : VgSpec → List DataSet
source_sets g = sets_in g.group

-- whether the file of a data set is CSV; without a type it is JSON
abbrev pub is_csv_kind : Option FormatKind → Bool
is_csv_kind (Some format.Csv) = true
is_csv_kind (Some format.Json) = false
is_csv_kind None = false

abbrev pub is_csv : DataSet → Bool
is_csv set = option_map_or (λ (f : Format). is_csv_kind f.type_) set.format false

-- what the file of a source gives before its rows are read
pub data Given : Type 0 where
  -- a tree of JSON
  Tree : Json → Given
  -- the bytes of a CSV file
  Table : List ℕ → Given
  -- nothing, where no file is read
  Nothing : Given

-- what the file of this name gives, as CSV or as JSON
abbrev pub given_by_file : Reading → Files → Bool → List ℕ → Result Given Refusal
given_by_file reading files csv name =
    if csv then result_map_both Table (λ why. why) (bytes_of files name)
    else result_map_both Tree (λ why. why) (tree_of_file reading files name)

-- what the file of a source gives: nothing where the specification has its rows, or it names no file
abbrev pub given_with : Reading → Files → Bool → Option Json → Option (List ℕ) → Result Given Refusal
given_with reading files csv (Some values) url = Ok Nothing
given_with reading files csv None (Some name) = given_by_file reading files csv name
given_with reading files csv None None = Ok Nothing

abbrev pub given_by : Reading → Files → DataSet → Result Given Refusal
given_by reading files set = given_with reading files (is_csv set) set.values set.url

-- as what the fields of a data set are parsed
abbrev pub kind_of : VegaKind → ParseKind
kind_of vega.Number = kind.Number
kind_of vega.Boolean = kind.Boolean
kind_of vega.String = kind.Text
kind_of vega.Date = kind.Date

abbrev pub kinds_in : List (List ℕ × VegaKind) → List (List ℕ × ParseKind)
kinds_in parse = map (λ (field : List ℕ × VegaKind). (field.0, kind_of field.1)) parse

abbrev pub parse_of : DataSet → List (List ℕ × ParseKind)
parse_of set = kinds_in (unwrap_or (option_and_then (λ (f : Format). f.parse) set.format) [])

-- the rows that the specification has of a source, or that its file gives, or the first that is bad
abbrev pub rows_given : List (List ℕ × ParseKind) → Option Json → Given → Result (List Cells) Bad
rows_given parse (Some values) what = rows_of_json parse values
rows_given parse None (Tree tree) = rows_of_json parse tree
rows_given parse None (Table bytes) = rows_of_csv parse bytes
rows_given parse None Nothing = Ok []

-- the refusal of a bad row of the source of this name
abbrev pub bad_row : List ℕ → Bad → Refusal
bad_row name bad = refusal.Row name bad.0 bad.1

-- the rows of a source, of what its file gives
abbrev pub rows_by : DataSet × Given → Result (List Cells) Refusal
rows_by source =
    result_map_both (λ rows. rows) (bad_row source.0.name) (rows_given (parse_of source.0) source.0.values source.1)

-- all of some results, or the first refusal among them
abbrev pub all_of : {X : Type 0} → List (Result X Refusal) → Result (List X) Refusal
all_of [] = Ok []
all_of (result ∷ others) = do
  x ← result
  xs ← all_of others
  Ok (x ∷ xs)

-- The rules at work.

the_first_refusal : all_of {X = ℕ} (Ok 1 ∷ Err refusal.Rows ∷ Err refusal.Overflow ∷ []) ≡ Err refusal.Rows
the_first_refusal = refl
