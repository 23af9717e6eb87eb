-- What a change makes of one of the sources of a state, by its index.
use Rattle.std.specs.Prelude.{◌≢◌, ℕ, zero, suc, ◌+◌, ◌-◌, nat_lt, ◌||◌, Bool, Option, List, [], ◌∷◌, ◌++◌, length, map, flat_map}
use Rattle.std.specs.Option.{option_map}
use Rattle.std.specs.List.{AllPairs}
use Rattle.json_exact.specs.declared.json.Json.{Json}
use Rattle.cell_value.specs.declared.cell.Cell.{Cell}
use Rattle.cell_value.specs.declared.state.StoreOf.{StoreOf}
use Rattle.cell_value.specs.Datum.{Datum, datum_of}
use Rattle.cell_value.specs.State.{Dataset, State, most_rows, greatest_id}
use Rattle.expr_eval.specs.Values.{Values}
use Rattle.param_flow.specs.declared.command.ChangeOf.{ChangeOf}
use Rattle.param_flow.specs.Change.{rows_after, count_staying}
use Rattle.param_flow.specs.Machine.{new_rows}

-- the rows of the source at an index; none where there is no source
abbrev pub data_at : List Dataset → ℕ → List Datum
data_at [] index = []
data_at (source ∷ sources) zero = source.rows
data_at (source ∷ sources) (suc index) = data_at sources index

-- sources with these rows in the one at an index
abbrev pub with_data : List Dataset → ℕ → List Datum → List Dataset
with_data [] index rows = []
with_data (source ∷ sources) zero rows = record { name = source.name; rows = rows } ∷ sources
with_data (source ∷ sources) (suc index) rows = source ∷ with_data sources index rows

-- the rows of sources, and how many they are
abbrev pub rows_in : List Dataset → List Datum
rows_in sources = flat_map (λ (source : Dataset). source.rows) sources

abbrev pub count_in : List Dataset → ℕ
count_in sources = length (rows_in sources)

-- the names of sources, and the name of the one at an index
abbrev pub names_of : List Dataset → List (List ℕ)
names_of sources = map (λ (source : Dataset). source.name) sources

abbrev pub name_at : List Dataset → ℕ → List ℕ
name_at [] index = []
name_at (source ∷ sources) zero = source.name
name_at (source ∷ sources) (suc index) = name_at sources index

-- no two of these are the same
abbrev pub AreApart : List (List ℕ) → Type 0
AreApart names = AllPairs (λ a b. a ≢ b) names

-- the inserted rows, as they are read
abbrev pub new_data : ℕ → List Json → List Datum
new_data next_id trees = map datum_of (new_rows next_id trees)

-- a state of these parts
abbrev pub state_in : List StoreOf → List (List ℕ × Cell) → ℕ → List Dataset → State
state_in stores params next_id sources = record { next_id = next_id; sources = sources; params = params; stores = stores }

module _ (values : Values) (next_id : ℕ) (sources : List Dataset) (index : ℕ) (change : ChangeOf) where
  -- the rows of a source after a change; None where an expression is out of range
  abbrev pub rows_changed : Option (List Datum)
  rows_changed = option_map (λ left. left ++ new_data next_id change.insert) (rows_after values change (data_at sources index))

  -- how many rows would stay in all sources
  abbrev pub staying_in_all : ℕ
  staying_in_all = (count_in sources - length (data_at sources index)) + count_staying values change.remove (data_at sources index)

  -- whether it would leave too many rows, or a new one would have too great an id
  abbrev pub is_past : Bool
  is_past = nat_lt most_rows (staying_in_all + length change.insert) || nat_lt (greatest_id + 1) (next_id + length change.insert)
