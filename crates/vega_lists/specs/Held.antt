-- What named lists hold, and which names stand for which rows.
use Rattle.std.specs.Prelude.{ℕ, Option, None, List, [], map, slice_get, unwrap_or, String, All, Result, Ok, Err}
use Rattle.std.specs.Option.{option_map}
use Rattle.std.specs.declared.alloc.Global.{Global}
use Rattle.std.specs.BTreeMap as tree
use Rattle.cell_value.specs.declared.state.Keyed.{Keyed}
use Rattle.cell_value.specs.declared.state.Named.{Named}
use Rattle.cell_value.specs.Datum.{datum_of}
use Rattle.expr_eval.specs.declared.error.EvalError.{EvalError}
use Rattle.expr_eval.specs.Answers.{Evaluates}
use Rattle.plain_rows.specs.Rows.{AreRows, keys_of}
use Rattle.vega_spec.specs.declared.transforms.Transform.{Transform}
use Rattle.vega_lists.specs.declared.held.RowsIn.{RowsIn}
use Rattle.vega_lists.specs.declared.held.RowsIn.TheVariants.{Source, Made, Nothing}
use Rattle.vega_lists.specs.declared.held.Lists.{Lists}
use Rattle.vega_lists.specs.Scopes.{Scope}
use Rattle.vega_lists.specs.Products.{KeysFit, ProductsFit}

-- the rows in a place, if there is a list
abbrev pub rows_in : List Named → List (List Keyed) → RowsIn → Option (List Keyed)
rows_in sources made (Source i) = option_map (λ (source : Named). source.rows) (slice_get sources i)
rows_in sources made (Made i) = slice_get made i
rows_in sources made Nothing = None

-- the place of a name
abbrev pub place_named : tree.BTreeMap (String Global) RowsIn → List ℕ → RowsIn
place_named places name = unwrap_or (tree.get_by_text places name) Nothing

-- the rows for which a name stands, if it stands for a list
abbrev pub rows_found : List Named → Lists → List ℕ → Option (List Keyed)
rows_found sources lists name = rows_in sources lists.made (place_named lists.by_name name)

-- the rows for which a name stands; none where it stands for no list
abbrev pub rows_named : List Named → Lists → List ℕ → List Keyed
rows_named sources lists name = unwrap_or (rows_found sources lists name) []

-- the rows for which each name stands, as they are read
abbrev pub scope_read : (List ℕ → List Keyed) → Scope
scope_read named name = map datum_of (named name)

-- each name stands for a list of rows
abbrev pub AreAllRows : (List ℕ → List Keyed) → Type 0
AreAllRows named = (name : List ℕ) → AreRows (named name)

-- the same of the lists over their sources
abbrev pub scope_in : List Named → Lists → Scope
scope_in sources lists name = scope_read (rows_named sources lists) name

abbrev pub AreLists : List Named → Lists → Type 0
AreLists sources lists = AreAllRows (rows_named sources lists)

-- The rows have keys such as those on a path with some product, after which no transform makes the product too great.
abbrev pub MayFold : List Keyed → List Transform → Type 0
MayFold rows transforms = (product : ℕ) × KeysFit product (keys_of rows) × ProductsFit product transforms

-- the rows in a place; none where there is no list
abbrev pub rows_there : List Named → List (List Keyed) → RowsIn → List Keyed
rows_there sources made place = unwrap_or (rows_in sources made place) []

-- the rows of the sources have keys such as those of a chart's rows: they rise, the ids are those that rows may have, no branch is
-- counted, and of each source there are no more than a chart may have
abbrev pub AreSources : List Named → Type 0
AreSources sources = All (λ (source : Named). AreRows source.rows × KeysFit 1 (keys_of source.rows)) sources

-- what named lists hold, as it is read, where they were answered
abbrev pub scope_of : List Named → Result Lists EvalError → Result Scope EvalError
scope_of sources (Ok lists) = Ok (scope_in sources lists)
scope_of sources (Err e) = Err e

-- The names stand for the lists that the definition gives, or it is `Overflow` exactly where it gives none, unless memory was refused.
abbrev pub GivesLists : List Named → Result Lists EvalError → Option Scope → Type 0
GivesLists sources result given = Evaluates (scope_of sources result) given
