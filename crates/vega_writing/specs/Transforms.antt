-- The trees of transforms.
use Rattle.std.specs.Prelude.{ℕ, List, [], ◌∷◌, option_map, codes}
use Rattle.case_table.specs.Names.{time_units}
use Rattle.json_exact.specs.declared.json.Json.{Json}
use Rattle.vega_writing.specs.declared.slots.Slot.{Slot}
use Rattle.vega_spec.specs.declared.transforms.Offset.{Offset}
use Rattle.vega_spec.specs.declared.transforms.Offset.TheVariants as offset
use Rattle.vega_spec.specs.declared.transforms.Filter.{Filter}
use Rattle.vega_spec.specs.declared.transforms.Formula.{Formula}
use Rattle.vega_spec.specs.declared.transforms.Extent.{Extent}
use Rattle.vega_spec.specs.declared.transforms.Bin.{Bin}
use Rattle.vega_spec.specs.declared.transforms.TimeUnit.{TimeUnit}
use Rattle.vega_spec.specs.declared.transforms.Stack.{Stack}
use Rattle.vega_spec.specs.declared.transforms.Fold.{Fold}
use Rattle.vega_spec.specs.declared.transforms.BinExtent.{BinExtent}
use Rattle.vega_spec.specs.declared.transforms.BinExtent.TheVariants as extent
use Rattle.vega_spec.specs.declared.transforms.Transform.{Transform}
use Rattle.vega_spec.specs.declared.transforms.Transform.TheVariants as transform
use Rattle.vega_writing.specs.Slots.{must, may, object}
use Rattle.vega_writing.specs.Trees.{text_tree, number_tree, expression_tree, list_tree, pair_tree}
use Rattle.vega_writing.specs.Names.{code_tree}
use Rattle.vega_writing.specs.Orders.{sort_tree}
use Rattle.vega_writing.specs.Groupings.{aggregate_tree, window_tree, lookup_tree}

-- where stacks begin
unfoldable pub offset_tree : Offset → Json
offset_tree offset.Zero = text_tree (codes "zero")
offset_tree offset.Normalize = text_tree (codes "normalize")
offset_tree offset.Center = text_tree (codes "center")

-- the signal of an extent, by its name
abbrev pub extent_signal : List ℕ → List Slot
extent_signal name = must (codes "signal") (text_tree name) ∷ []

-- what bins take in
unfoldable pub bin_extent_tree : BinExtent → Json
bin_extent_tree (extent.Pair first second) = list_tree number_tree (first ∷ second ∷ [])
bin_extent_tree (extent.Signal name) = object (extent_signal name)

-- a filter: its members
unfoldable pub filter_slots : Filter → List Slot
filter_slots f = must (codes "type") (text_tree (codes "filter")) ∷ must (codes "expr") (expression_tree f.expr) ∷ []

abbrev pub filter_tree : Filter → Json
filter_tree f = object (filter_slots f)

-- a formula: its members
unfoldable pub formula_slots : Formula → List Slot
formula_slots f =
    must (codes "type") (text_tree (codes "formula")) ∷ must (codes "expr") (expression_tree f.expr) ∷
    must (codes "as") (text_tree f.as_) ∷ []

abbrev pub formula_tree : Formula → Json
formula_tree f = object (formula_slots f)

-- an extent: its members
unfoldable pub extent_slots : Extent → List Slot
extent_slots e =
    must (codes "type") (text_tree (codes "extent")) ∷ must (codes "field") (text_tree e.field) ∷
    must (codes "signal") (text_tree e.signal) ∷ []

abbrev pub extent_tree : Extent → Json
extent_tree e = object (extent_slots e)

-- bins: its members
unfoldable pub bin_slots : Bin → List Slot
bin_slots b =
    must (codes "type") (text_tree (codes "bin")) ∷ must (codes "field") (text_tree b.field) ∷
    must (codes "extent") (bin_extent_tree b.extent) ∷ may (codes "maxbins") (option_map number_tree b.maxbins) ∷
    may (codes "step") (option_map number_tree b.step) ∷ may (codes "as") (option_map pair_tree b.as_) ∷ []

abbrev pub bin_tree : Bin → Json
bin_tree b = object (bin_slots b)

-- units of time: its members
unfoldable pub time_unit_slots : TimeUnit → List Slot
time_unit_slots t =
    must (codes "type") (text_tree (codes "timeunit")) ∷ must (codes "field") (text_tree t.field) ∷
    must (codes "units") (code_tree time_units t.units) ∷ may (codes "as") (option_map pair_tree t.as_) ∷ []

abbrev pub time_unit_tree : TimeUnit → Json
time_unit_tree t = object (time_unit_slots t)

-- a stack: its members
unfoldable pub stack_slots : Stack → List Slot
stack_slots s =
    must (codes "type") (text_tree (codes "stack")) ∷ may (codes "groupby") (option_map (list_tree text_tree) s.groupby) ∷
    must (codes "field") (text_tree s.field) ∷ may (codes "sort") (option_map sort_tree s.sort) ∷
    may (codes "offset") (option_map offset_tree s.offset) ∷ may (codes "as") (option_map pair_tree s.as_) ∷ []

abbrev pub stack_tree : Stack → Json
stack_tree s = object (stack_slots s)

-- a fold: its members
unfoldable pub fold_slots : Fold → List Slot
fold_slots f =
    must (codes "type") (text_tree (codes "fold")) ∷ must (codes "fields") (list_tree text_tree f.fields) ∷
    may (codes "as") (option_map pair_tree f.as_) ∷ []

abbrev pub fold_tree : Fold → Json
fold_tree f = object (fold_slots f)

-- a transform
unfoldable pub transform_tree : Transform → Json
transform_tree (transform.Filter f) = filter_tree f
transform_tree (transform.Formula f) = formula_tree f
transform_tree (transform.Extent e) = extent_tree e
transform_tree (transform.Bin b) = bin_tree b
transform_tree (transform.TimeUnit u) = time_unit_tree u
transform_tree (transform.Aggregate a) = aggregate_tree (codes "aggregate") a
transform_tree (transform.JoinAggregate a) = aggregate_tree (codes "joinaggregate") a
transform_tree (transform.Stack s) = stack_tree s
transform_tree (transform.Window w) = window_tree w
transform_tree (transform.Lookup l) = lookup_tree l
transform_tree (transform.Fold f) = fold_tree f
