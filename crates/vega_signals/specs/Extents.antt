-- What computed signals and the extents of data sets give where signals have some values.
use Rattle.std.specs.Prelude.{ℕ, ℤ, Bool, Option, Some, None, List, [], ◌∷◌, ◌++◌, map, is_some, unwrap_or, if◌then◌else◌}
use Rattle.std.specs.List.{filter_map}
use Rattle.std.specs.Option.{option_map_or}
use Rattle.cell_value.specs.declared.cell.Cell.{Cell}
use Rattle.cell_value.specs.declared.cell.Cell.TheVariants.{Null, Pair}
use Rattle.cell_value.specs.State.{Dataset}
use Rattle.cell_value.specs.Datum.{Datum}
use Rattle.expr_syntax.specs.declared.expr.Expr.{Expr}
use Rattle.expr_eval.specs.Plain.{null_row}
use Rattle.expr_eval.specs.Value.{value_of}
use Rattle.expr_eval.specs.Values.{Values}
use Rattle.plain_bins.specs.Extents.{numbers_of, extent_of}
use Rattle.vega_spec.specs.declared.data.DataSet.{DataSet}
use Rattle.vega_spec.specs.declared.signals.Signal.{Signal}
use Rattle.vega_spec.specs.declared.transforms.Extent.{Extent}
use Rattle.vega_spec.specs.declared.transforms.Transform.{Transform}
use Rattle.vega_spec.specs.declared.transforms.Transform.TheVariants as vega
use Rattle.vega_lists.specs.Scopes.{Scope, with_list}
use Rattle.vega_lists.specs.Transforms.{transformed, transforms_of}
use Rattle.vega_lists.specs.Lists.{begun_rows}

-- the update of a signal that is computed; a signal that does something on events is a selection, whatever else it has
abbrev pub update_of : Signal → Option Expr
update_of s = if is_some s.on then None else s.update

-- whether a signal is computed
abbrev pub is_computed : Signal → Bool
is_computed s = is_some (update_of s)

-- the value of a computed signal where signals have some values, over no row; None where it overflows. Any other signal is null.
abbrev pub computed_value : Values → Signal → Option Cell
computed_value values s = option_map_or (value_of null_row values) (update_of s) (Some Null)

-- signals with their values; None for one that has none, since its computation is out of range
abbrev pub Settled : Type 0
Settled = List (List ℕ × Option Cell)

-- a computed signal with its value; nothing of another signal
abbrev pub computed_here : Values → Signal → Settled
computed_here values s = if is_computed s then (s.name, computed_value values s) ∷ [] else []

-- the extent for which a transform asks
abbrev pub extent_asked : Transform → Option Extent
extent_asked (vega.Filter f) = None
extent_asked (vega.Formula f) = None
extent_asked (vega.Extent e) = Some e
extent_asked (vega.Bin b) = None
extent_asked (vega.TimeUnit t) = None
extent_asked (vega.Aggregate a) = None
extent_asked (vega.JoinAggregate a) = None
extent_asked (vega.Stack s) = None
extent_asked (vega.Window w) = None
extent_asked (vega.Lookup l) = None
extent_asked (vega.Fold f) = None

-- the least and the greatest number as a cell, null where there is no number
abbrev pub extent_cell : Option (ℤ × ℤ) → Cell
extent_cell found = option_map_or (λ ends. Pair ends.0 ends.1) found Null

-- the least and the greatest number of a field over rows
abbrev pub data_extent : List ℕ → List Datum → Option (ℤ × ℤ)
data_extent field rows = extent_of (numbers_of (λ (datum : Datum). datum.cell) field rows)

-- the signal of an extent with the extent of its field over rows
abbrev pub extent_over : List Datum → Extent → List ℕ × Option Cell
extent_over rows e = (e.signal, Some (extent_cell (data_extent e.field rows)))

-- the same of a transform that asks for an extent; nothing of another transform
abbrev pub extent_here : Transform → List Datum → Settled
extent_here transform rows = option_map_or (λ e. extent_over rows e ∷ []) (extent_asked transform) []

-- the rows that a transform leaves: none where it overflows
abbrev pub rows_left : Values → Scope → Transform → List Datum → List Datum
rows_left values scope transform rows = unwrap_or (transformed values scope transform rows) []

-- the rows that transforms leave one after the other
abbrev pub all_left : Values → Scope → List Transform → List Datum → List Datum
all_left values scope [] rows = rows
all_left values scope (transform ∷ others) rows = all_left values scope others (rows_left values scope transform rows)

-- the signals of the extents among transforms, each with the extent of its field over the rows that the transforms before it leave
abbrev pub extents_in : Values → Scope → List Transform → List Datum → Settled
extents_in values scope [] rows = []
extents_in values scope (transform ∷ others) rows =
    extent_here transform rows ++ extents_in values scope others (rows_left values scope transform rows)

-- the scope in which the name of a data set stands for the rows that its transforms leave
abbrev pub with_rows_left : Values → List Dataset → Scope → DataSet → Scope
with_rows_left values sources scope set =
    with_list set.name (all_left values scope (transforms_of set) (begun_rows sources scope set)) scope

-- the extents of data sets, each read where those before it have their names
abbrev pub set_extents : Values → List Dataset → Scope → List DataSet → Settled
set_extents values sources scope [] = []
set_extents values sources scope (set ∷ others) =
    extents_in values scope (transforms_of set) (begun_rows sources scope set)
    ++ set_extents values sources (with_rows_left values sources scope set) others

-- the names of the signals of the extents of a data set
abbrev pub extent_names : DataSet → List (List ℕ)
extent_names set = map (λ (e : Extent). e.signal) (filter_map extent_asked (transforms_of set))
