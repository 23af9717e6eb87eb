-- Which names stand for which places.
use Rattle.std.specs.Prelude.{◌≡◌, ℕ, ◌<◌, Bool, is_some, IsTrue, IfSome, List, length, map, String, Option, Some, None, Result, Ok, Err, if◌then◌else◌}
use Rattle.std.specs.Option.{option_map_or}
use Rattle.std.specs.Str.{bytes_eq}
use Rattle.std.specs.declared.alloc.Global.{Global}
use Rattle.std.specs.BTreeMap as tree
use Rattle.cell_value.specs.declared.state.Keyed.{Keyed}
use Rattle.cell_value.specs.declared.state.Named.{Named}
use Rattle.cell_value.specs.State.{dataset_of}
use Rattle.cell_value.specs.Datum.{Datum, datum_of}
use Rattle.expr_eval.specs.declared.error.EvalError.{EvalError}
use Rattle.expr_eval.specs.Answers.{Evaluates}
use Rattle.plain_rows.specs.Rows.{AreRows}
use Rattle.vega_spec.specs.declared.data.DataSet.{DataSet}
use Rattle.vega_spec.specs.declared.transforms.Transform.{Transform}
use Rattle.vega_spec.specs.declared.transforms.Transform.TheVariants as vega
use Rattle.vega_lists.specs.declared.held.RowsIn.{RowsIn}
use Rattle.vega_lists.specs.declared.held.RowsIn.TheVariants.{Source, Made, Nothing}
use Rattle.vega_lists.specs.declared.held.Lists.{Lists}
use Rattle.vega_lists.specs.Scopes.{list_named}
use Rattle.vega_lists.specs.Held.{place_named, rows_there}
use Rattle.vega_lists.specs.Inside.{RowsByName, rows_held, rows_inside}

-- places by names
abbrev pub Places : Type 0
Places = tree.BTreeMap (String Global) RowsIn

-- a name stands for this place, and each other for what it stood for
abbrev pub IsPut : Places → List ℕ → RowsIn → Places → Type 0
IsPut old name place new = (other : List ℕ) → tree.get_by_text new other ≡ (if bytes_eq name other then Some place else tree.get_by_text old other)

-- the place is none of those to come in a list of so many that were made
abbrev pub IsThere : ℕ → RowsIn → Type 0
IsThere n (Source i) = Unit {0}
IsThere n (Made i) = i < n
IsThere n Nothing = Unit {0}

-- each name stands for a place that is there
abbrev pub ArePlaced : Lists → Type 0
ArePlaced lists = (name : List ℕ) → IsThere (length lists.made) (place_named lists.by_name name)

-- each name stands for the first source of the name, whatever was made
pub record ArePlacesOf (sources : List Named) (places : Places) : Type 0 where
  pub read : (made : List (List Keyed)) (name : List ℕ)
      → map datum_of (rows_there sources made (place_named places name)) ≡ list_named (map dataset_of sources) name
  pub there : (n : ℕ) (name : List ℕ) → IsThere n (place_named places name)

-- where the rows stand with which a data set begins
abbrev pub begun_place : Places → Places → DataSet → RowsIn
begun_place given places set = option_map_or (place_named places) set.source (place_named given set.name)

-- the rows with which a data set begins
abbrev pub rows_begun : List Named → Places → Lists → DataSet → List Keyed
rows_begun sources given lists set = rows_there sources lists.made (begun_place given lists.by_name set)

-- rows are held under a name, and under each other what was held before
abbrev pub IsHeldAlso : List Named → Lists → List ℕ → List Keyed → Lists → Type 0
IsHeldAlso sources old name rows new = (other : List ℕ) → rows_held sources new other ≡ (if bytes_eq name other then Some rows else rows_held sources old other)

-- What was answered holds the rows that were given under a name also; it is `Overflow` exactly where none were given. Each name stands for
-- a place that is there.
abbrev pub HoldsAlso : List Named → Lists → Result Lists EvalError → List ℕ → Option (List Datum) → Type 0
HoldsAlso sources old (Ok new) name given =
    (rows : List Keyed) × (given ≡ Some (map datum_of rows)) × AreRows rows × IsHeldAlso sources old name rows new × ArePlaced new
HoldsAlso sources old (Err e) name given = Evaluates {X = List Datum} (Err e) given

-- a name stands for rows, and each other for what it stood for
abbrev pub IsNamed : RowsByName → List ℕ → List Keyed → RowsByName → Type 0
IsNamed old name rows new = (other : List ℕ) → new other ≡ (if bytes_eq name other then rows else old other)

-- the same of what names stand for inside
abbrev pub AddsList : List Named → RowsByName → Lists → Result Lists EvalError → List ℕ → Option (List Datum) → Type 0
AddsList sources outer old (Ok new) name given =
    (rows : List Keyed) × (given ≡ Some (map datum_of rows)) × AreRows rows
    × IsNamed (rows_inside sources outer old) name rows (rows_inside sources outer new) × ArePlaced new
AddsList sources outer old (Err e) name given = Evaluates {X = List Datum} (Err e) given

-- no list is held
abbrev pub HoldsNothing : Lists → Type 0
HoldsNothing lists = (name : List ℕ) → tree.get_by_text lists.by_name name ≡ None

-- whether a list is held under a name
abbrev pub is_held : Lists → List ℕ → Bool
is_held lists name = is_some (tree.get_by_text lists.by_name name)

abbrev pub IsHeld : Lists → List ℕ → Type 0
IsHeld lists name = IsTrue (is_held lists name)

-- the name of the list that a transform reads besides the rows that it is given
abbrev pub list_read : Transform → Option (List ℕ)
list_read (vega.Filter f) = None
list_read (vega.Formula f) = None
list_read (vega.Extent e) = None
list_read (vega.Bin b) = None
list_read (vega.TimeUnit t) = None
list_read (vega.Aggregate a) = None
list_read (vega.JoinAggregate a) = None
list_read (vega.Stack s) = None
list_read (vega.Window w) = None
list_read (vega.Lookup l) = Some l.from
list_read (vega.Fold f) = None

-- a list is held under the name, if there is one
abbrev pub IsHeldWhere : Lists → Option (List ℕ) → Type 0
IsHeldWhere lists name = IfSome name (IsHeld lists)

-- the list is held that a transform reads
abbrev pub HoldsRead : Lists → Transform → Type 0
HoldsRead lists transform = IsHeldWhere lists (list_read transform)

-- outer lists are held besides, each under its name, so that each name stands for what it stood for
pub record TakesIn (outer : RowsByName) (old new : Lists) : Type 0 where
  pub same : (sources : List Named) (name : List ℕ) → rows_inside sources outer new name ≡ rows_inside sources outer old name
  pub kept : (name : List ℕ) → IsHeld old name → IsHeld new name
  pub placed : ArePlaced new
