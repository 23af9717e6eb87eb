-- The state in which a Vega specification opens, over the files of a folder.
use Rattle.std.specs.Prelude.{◌≡◌, refl, ℕ, suc, ◌+◌, nat_le, List, [], ◌∷◌, map, flat_map, zip, length, sum_by, unwrap_or, Result, Ok}
use Rattle.std.specs.Prelude.{Err, if◌then◌else◌}
use Rattle.fixed_num.specs.Steps.{◌>>=◌}
use Rattle.std.specs.FinMap.{empty}
use Rattle.chart_io.specs.Outside.{Files}
use Rattle.cell_value.specs.declared.cell.Cell.{Cell}
use Rattle.cell_value.specs.declared.cell.Cell.TheVariants.{Null}
use Rattle.cell_value.specs.declared.state.Keyed.{Keyed}
use Rattle.cell_value.specs.declared.state.Named.{Named}
use Rattle.cell_value.specs.declared.state.ChartState.{ChartState}
use Rattle.cell_value.specs.declared.state.StoreOf.{StoreOf}
use Rattle.cell_value.specs.Row.{Cells}
use Rattle.cell_value.specs.State.{most_rows}
use Rattle.selection_events.specs.Stores.{empty_store}
use Rattle.vega_spec.specs.declared.data.DataSet.{DataSet}
use Rattle.vega_spec.specs.declared.signals.Signal.{Signal}
use Rattle.vega_spec.specs.declared.spec.Group.{out-Group}
use Rattle.vega_spec.specs.declared.spec.VgSpec.{VgSpec}
use Rattle.vega_spec.specs.Names.{signals_of, kind_of}
use Rattle.param_flow.specs.Settings.{is_settable}
use Rattle.vega_selections.specs.declared.selections.VgSelection.{VgSelection}
use Rattle.vega_selections.specs.Selections.{selections_of}
use Rattle.chart_opening.specs.declared.refusal.Refusal.{Refusal}
use Rattle.chart_opening.specs.declared.refusal.Refusal.TheVariants as refusal
use Rattle.chart_opening.specs.Texts.{Reading}
use Rattle.chart_opening.specs.Sources.{Given, source_sets, given_by, rows_by, all_of}

-- rows with their keys, whose ids count on from this one
abbrev pub keyed_rows : ℕ → List Cells → List Keyed
keyed_rows id [] = []
keyed_rows id (row ∷ rows) = record { key = record { id = id; branch = 0 }; row = row } ∷ keyed_rows (suc id) rows

-- sources of these names and rows; the ids count over all of them from this one
abbrev pub sources_from : ℕ → List (DataSet × List Cells) → List Named
sources_from id [] = []
sources_from id ((set, rows) ∷ others) =
    record { name = set.name; rows = keyed_rows id rows } ∷ sources_from (id + length rows) others

-- the value with which a parameter begins that can be set: the written one, else null
abbrev pub own_value : Signal → List (List ℕ × Cell)
own_value s = if is_settable (kind_of s) then (s.name, unwrap_or s.value Null) ∷ [] else []

abbrev pub values_of : List Signal → List (List ℕ × Cell)
values_of signals = flat_map own_value signals

abbrev pub first_values : VgSpec → List (List ℕ × Cell)
first_values g = values_of (signals_of (out-Group g.group))

-- the store with which a selection begins: it is empty
abbrev pub first_store : VgSelection → StoreOf
first_store v = empty_store v.selection.name

abbrev pub first_stores : VgSpec → List StoreOf
first_stores g = map first_store (selections_of g)

-- how many rows there are
abbrev pub count_rows : List (List Cells) → ℕ
count_rows rows = sum_by length rows

-- the state of a specification whose sources have these rows: ids are counted from 1, and nothing is selected
abbrev pub state_with : VgSpec → List (List Cells) → ChartState
state_with g rows = record {
  next_id = count_rows rows + 1;
  sources = sources_from 1 (zip (source_sets g) rows);
  params = first_values g;
  stores = first_stores g;
}

-- the state, unless there are more rows than a chart may have
abbrev pub state_within : VgSpec → List (List Cells) → Result ChartState Refusal
state_within g rows = if nat_le (count_rows rows) most_rows then Ok (state_with g rows) else Err refusal.Rows

-- the state of a specification for whose sources this is given: their rows are read in this order, and then they are counted
abbrev pub state_given : VgSpec → List Given → Result ChartState Refusal
state_given g given = do
  rows ← all_of (map rows_by (zip (source_sets g) given))
  state_within g rows

-- the opening state, or why there is none: first all sources are given in their order
abbrev pub opening_by : Reading → Files → VgSpec → Result ChartState Refusal
opening_by reading files g = do
  given ← all_of (map (given_by reading files) (source_sets g))
  state_given g given

-- The rules at work.

ids_count_on : map (λ (k : Keyed). k.key.id) (keyed_rows 7 (empty ∷ empty ∷ [])) ≡ 7 ∷ 8 ∷ []
ids_count_on = refl
