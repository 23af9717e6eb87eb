-- What names stand for in an object in others.
use Rattle.std.specs.Prelude.{ℕ, Option, List, [], unwrap_or, Result, Ok, Err}
use Rattle.std.specs.Option.{option_map}
use Rattle.std.specs.BTreeMap as tree
use Rattle.cell_value.specs.declared.state.Keyed.{Keyed}
use Rattle.cell_value.specs.declared.state.Named.{Named}
use Rattle.expr_eval.specs.declared.error.EvalError.{EvalError}
use Rattle.expr_eval.specs.Answers.{Evaluates}
use Rattle.plain_rows.specs.Rows.{keys_of}
use Rattle.vega_spec.specs.declared.data.DataSet.{DataSet}
use Rattle.vega_lists.specs.declared.held.Lists.{Lists}
use Rattle.vega_lists.specs.Scopes.{Scope}
use Rattle.vega_lists.specs.Products.{Products, KeysFit, FoldsFit}
use Rattle.vega_lists.specs.Held.{rows_there, scope_read}

-- the rows for which each name stands; none where it stands for no list
abbrev pub RowsByName : Type 0
RowsByName = List ℕ → List Keyed

-- no name stands for a list
abbrev pub no_rows : RowsByName
no_rows name = []

-- the rows of each name have keys such as those on a path with the product of the name
abbrev pub AllKeysFit : Products → RowsByName → Type 0
AllKeysFit products rows = (name : List ℕ) → KeysFit (products name) (keys_of (rows name))

-- The rows for which names stand have keys such as those on paths with some products, from which no fold of the data sets makes a
-- product too great: a set's path goes on from that of its source, also where the source is an outer list.
abbrev pub SetsMayFold : RowsByName → List DataSet → Type 0
SetsMayFold rows sets = (products : Products) × AllKeysFit products rows × FoldsFit products sets

-- the rows that an object holds under a name; None where it holds no list of the name
abbrev pub rows_held : List Named → Lists → List ℕ → Option (List Keyed)
rows_held sources lists name = option_map (rows_there sources lists.made) (tree.get_by_text lists.by_name name)

-- the rows for which each name stands in an object: those that it holds under the name, or else those for which it stands round the object
abbrev pub rows_inside : List Named → RowsByName → Lists → RowsByName
rows_inside sources outer lists name = unwrap_or (rows_held sources lists name) (outer name)

-- what names stand for in an object, as it is read, where its lists were answered
abbrev pub scope_inside : List Named → RowsByName → Result Lists EvalError → Result Scope EvalError
scope_inside sources outer (Ok lists) = Ok (scope_read (rows_inside sources outer lists))
scope_inside sources outer (Err e) = Err e

-- In the object names stand for the lists that the definition gives, or it is `Overflow` exactly where it gives none, unless memory was
-- refused.
abbrev pub GivesInside : List Named → RowsByName → Result Lists EvalError → Option Scope → Type 0
GivesInside sources outer result given = Evaluates (scope_inside sources outer result) given
