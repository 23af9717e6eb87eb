-- The state of a chart, as it is read.
use Rattle.std.specs.Prelude.{◌≡◌, ◌≢◌, refl, ℕ, ◌+◌, ◌*◌, pos, ◌<◌, ◌≤◌, ◌^◌, List, [], ◌∷◌, length, map, flat_map, codes}
use Rattle.std.proofs.Common.{lit≤, arith}
use Rattle.std.specs.FinMap.{empty}
use Rattle.std.specs.List.{All, AllPairs}
use Rattle.fixed_num.specs.Number.{million}
use Rattle.cell_value.specs.declared.cell.Cell.{Cell}
use Rattle.cell_value.specs.declared.cell.Cell.TheVariants.{Number}
use Rattle.cell_value.specs.declared.state.Keyed.{Keyed}
use Rattle.cell_value.specs.declared.state.Named.{Named}
use Rattle.cell_value.specs.declared.state.StoreOf.{StoreOf}
use Rattle.cell_value.specs.declared.state.ChartState.{ChartState}
use Rattle.cell_value.specs.Datum.{Datum, datum_of, id_name}

-- a source as it is read: its name and its rows
pub record Dataset : Type 0 where
  pub name : List ℕ
  pub rows : List Datum

abbrev pub dataset_of : Named → Dataset
dataset_of source = record { name = source.name; rows = map datum_of source.rows }

-- A state as it is read: the next id, the sources, the values of the parameters, and what the selections hold. Of the rows of
-- sources only what is read counts: an absent name and one with null are the same, and a row has its id under `_vgsid_`. The
-- tuples of a selection are rows as finite maps, in which an absent name and one with null differ.
pub record State : Type 0 where
  pub next_id : ℕ
  pub sources : List Dataset
  pub params : List (List ℕ × Cell)
  pub stores : List StoreOf

abbrev pub state_of : ChartState → State
state_of st = record { next_id = st.next_id; sources = map dataset_of st.sources; params = st.params; stores = st.stores }

-- the rows of all sources
abbrev pub all_rows : State → List Datum
all_rows st = flat_map (λ (source : Dataset). source.rows) st.sources

-- the ids of rows
abbrev pub ids_of : List Datum → List ℕ
ids_of rows = map (λ (datum : Datum). datum.key.id) rows

-- a row reads its id under `_vgsid_`
abbrev pub ReadsItsId : Datum → Type 0
ReadsItsId datum = datum.cell id_name ≡ Number (pos (datum.key.id * million))

-- how many rows a chart may have
abbrev pub most_rows : ℕ
most_rows = 200000

-- the greatest id that a row may have
abbrev pub greatest_id : ℕ
greatest_id = 10 ^ 15

-- what holds of each state of a chart, whatever its specification
pub record IsState (st : State) : Type 0 where
  pub ids_read : All ReadsItsId (all_rows st)
  pub no_branch : All (λ (datum : Datum). datum.key.branch ≡ 0) (all_rows st)
  pub ids_rise : All (λ (source : Dataset). AllPairs (λ a b. a < b) (ids_of source.rows)) st.sources
  pub ids_distinct : AllPairs (λ a b. a ≢ b) (ids_of (all_rows st))
  pub ids_below_next : All (λ id. id < st.next_id) (ids_of (all_rows st))
  pub next_id_from : 1 ≤ st.next_id
  pub next_id_to : st.next_id ≤ greatest_id + 1
  pub few_rows : length (all_rows st) ≤ most_rows

-- The rules at work.

-- a row without cells under an id
abbrev bare_row : ℕ → Keyed
bare_row id = record { key = record { id = id; branch = 0 }; row = empty }

abbrev source_of : List ℕ → List Keyed → Named
source_of name rows = record { name = name; rows = rows }

abbrev two_sources : ChartState
two_sources = record {
  next_id = 4;
  sources = source_of (codes "a") (bare_row 1 ∷ bare_row 3 ∷ []) ∷ source_of (codes "b") (bare_row 2 ∷ []) ∷ [];
  params = [];
  stores = [];
}

the_rows_of_two_sources : ids_of (all_rows (state_of two_sources)) ≡ 1 ∷ 3 ∷ 2 ∷ []
the_rows_of_two_sources = refl

no_sources : IsState (record { next_id = 1; sources = []; params = []; stores = [] })
no_sources = record {
  ids_read = λ k row below. absurd (omega (arith, below));
  no_branch = λ k row below. absurd (omega (arith, below));
  ids_rise = λ k source below. absurd (omega (arith, below));
  ids_distinct = λ i j id less below. absurd (omega (arith, below));
  ids_below_next = λ k id below. absurd (omega (arith, below));
  next_id_from = lit≤ tt;
  next_id_to = lit≤ tt;
  few_rows = lit≤ tt;
}
