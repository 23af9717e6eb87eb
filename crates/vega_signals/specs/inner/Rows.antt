-- Rows by the names of data sets.
use Rattle.std.specs.Prelude.{◌≡◌, ℕ, Option, Some, None, List, unwrap_or, is_some, Bool, String, if◌then◌else◌}
use Rattle.std.specs.List.{list_any}
use Rattle.std.specs.Str.{bytes_eq}
use Rattle.std.specs.declared.alloc.Global.{Global}
use Rattle.std.specs.BTreeMap as tree
use Rattle.cell_value.specs.declared.state.Keyed.{Keyed}
use Rattle.vega_spec.specs.declared.data.DataSet.{DataSet}
use Rattle.vega_spec.specs.declared.groupings.Lookup.{Lookup}
use Rattle.vega_spec.specs.declared.transforms.Transform.{Transform}
use Rattle.vega_spec.specs.declared.transforms.Transform.TheVariants as vega
use Rattle.vega_lists.specs.Scopes.{Scope}
use Rattle.vega_lists.specs.Transforms.{transforms_of}
use Rattle.vega_lists.specs.Held.{scope_read}
use Rattle.vega_signals.specs.Outer.{Listed, ListedMayFold}
use Rattle.vega_signals.specs.Extents.{extent_asked}

-- rows by names
abbrev pub RowsByName : Type 0
RowsByName = tree.BTreeMap (String Global) (List Keyed)

-- the rows for which a name stands: what is put under it, or else what it stands for round the object
abbrev pub rows_of : Listed → RowsByName → Listed
rows_of outer lists name = unwrap_or (tree.get_by_text lists name) (outer name)

-- the same of each name, as they are read
abbrev pub scope_by : Listed → RowsByName → Scope
scope_by outer lists = scope_read (rows_of outer lists)

-- a name stands for rows, and each other for what it stood for
abbrev pub IsPut : RowsByName → List ℕ → List Keyed → RowsByName → Type 0
IsPut old name rows new = (outer : Listed) (other : List ℕ) → rows_of outer new other ≡ (if bytes_eq name other then rows else rows_of outer old other)

-- they have keys such as those on paths with some products, after which no fold of the data sets makes a product too great
abbrev pub SetsMayFold : Listed → RowsByName → List DataSet → Type 0
SetsMayFold outer lists = ListedMayFold (rows_of outer lists)

-- the lookup that a transform is
abbrev pub lookup_in : Transform → Option Lookup
lookup_in (vega.Filter f) = None
lookup_in (vega.Formula f) = None
lookup_in (vega.Extent e) = None
lookup_in (vega.Bin b) = None
lookup_in (vega.TimeUnit t) = None
lookup_in (vega.Aggregate a) = None
lookup_in (vega.JoinAggregate a) = None
lookup_in (vega.Stack s) = None
lookup_in (vega.Window w) = None
lookup_in (vega.Lookup l) = Some l
lookup_in (vega.Fold f) = None

-- whether a data set asks for an extent
abbrev pub asks : DataSet → Bool
asks set = list_any (λ transform. is_some (extent_asked transform)) (transforms_of set)
