-- Transforms of rows. A lookup has the name of its source from outside.
use Rattle.std.specs.Prelude.{◌≡◌, refl, ℕ, ℤ, pos, negsuc, Bool, true, false, ◌||◌, Option, Some, None, List, [], ◌∷◌, find, codes, if◌then◌else◌}
use Rattle.std.specs.Option.{option_map, option_map_or, option_and_then, unwrap_or}
use Rattle.std.specs.Str.{bytes_eq}
use Rattle.json_exact.specs.declared.json.Json.{Json, out-Json}
use Rattle.json_exact.specs.declared.json.Json.TheVariants as json
use Rattle.json_exact.specs.declared.json.Member.{Member}
use Rattle.json_exact.specs.Inside.{items_in}
use Rattle.vl_spec.specs.declared.definitions.Bin.{Bin}
use Rattle.vl_spec.specs.declared.definitions.Bin.TheVariants as bin
use Rattle.vl_spec.specs.declared.orders.SortField.{SortField}
use Rattle.vl_spec.specs.declared.groupings.AggregateTransform.{AggregateTransform}
use Rattle.vl_spec.specs.declared.groupings.Operation.{Operation}
use Rattle.vl_spec.specs.declared.groupings.WindowTransform.{WindowTransform}
use Rattle.vl_spec.specs.declared.groupings.WindowOperation.{WindowOperation}
use Rattle.vl_spec.specs.declared.groupings.Frame.{Frame}
use Rattle.vl_spec.specs.declared.groupings.LookupTransform.{LookupTransform}
use Rattle.vl_spec.specs.declared.groupings.LookupFrom.{LookupFrom}
use Rattle.vl_spec.specs.declared.transforms.CalculateTransform.{CalculateTransform}
use Rattle.vl_spec.specs.declared.transforms.BinTransform.{BinTransform}
use Rattle.vl_spec.specs.declared.transforms.TimeUnitTransform.{TimeUnitTransform}
use Rattle.vl_spec.specs.declared.transforms.StackTransform.{StackTransform}
use Rattle.vl_spec.specs.declared.transforms.FoldTransform.{FoldTransform}
use Rattle.vl_spec.specs.declared.transforms.Transform.{Transform}
use Rattle.vl_spec.specs.declared.transforms.Transform.TheVariants as transform
use Rattle.spec_schema.specs.Values.{is_whole}
use Rattle.tree_readers.specs.Parts.{found_at, object_at, objects_at, flag_at, needed_text, two_texts_at, needed_members}
use Rattle.vl_building.specs.Expressions.{needed_expression}
use Rattle.vl_building.specs.Fields.{field_at, needed_field, fields_at, needed_fields}
use Rattle.vl_building.specs.Numbers.{whole_at}
use Rattle.vl_building.specs.Values.{scalar_at, one_or_several, needed_names}
use Rattle.vl_building.specs.Names.{named_at, order_named, offset_named, needed_operation, needed_window_operation, needed_time_unit}
use Rattle.vl_building.specs.Definitions.{bin_settings_of}
use Rattle.vl_building.specs.Filters.{bound_in, needed_filter}

-- `calculate`
unfoldable pub calculate_of : List Member → CalculateTransform
calculate_of members = record {
  as_ = needed_text members (codes "as");
  calculate = needed_expression members (codes "calculate");
}

-- how a transform puts a field into bins: in the way that an object says, else by itself; there is no `false` here
abbrev pub needed_bin : List Member → List ℕ → Bin
needed_bin members name = option_map_or bin.Settings (object_at bin_settings_of members name) (bin.Flag true)

-- `bin`
unfoldable pub bin_of : List Member → BinTransform
bin_of members = record {
  bin = needed_bin members (codes "bin");
  field = needed_field members (codes "field");
  as_ = needed_names members (codes "as");
}

-- `timeUnit`
unfoldable pub time_unit_of : List Member → TimeUnitTransform
time_unit_of members = record {
  time_unit = needed_time_unit members (codes "timeUnit");
  field = needed_field members (codes "field");
  as_ = needed_text members (codes "as");
}

-- an operation over the rows of a group
unfoldable pub operation_of : List Member → Operation
operation_of members = record {
  op = needed_operation members (codes "op");
  field = field_at members (codes "field");
  as_ = needed_text members (codes "as");
}

-- the operations under a name, none where there is no list
abbrev pub needed_operations : List Member → List ℕ → List Operation
needed_operations members name = unwrap_or (objects_at operation_of members name) []

-- `aggregate` and `joinaggregate`, by the name of the member that decides
unfoldable pub aggregate_of : List ℕ → List Member → AggregateTransform
aggregate_of name members = record {
  aggregate = needed_operations members name;
  groupby = fields_at members (codes "groupby");
}

-- a field of an order
unfoldable pub sort_field_of : List Member → SortField
sort_field_of members = record {
  field = needed_field members (codes "field");
  order = named_at order_named members (codes "order");
}

-- `stack`
unfoldable pub stack_of : List Member → StackTransform
stack_of members = record {
  stack = needed_field members (codes "stack");
  groupby = fields_at members (codes "groupby");
  sort = objects_at sort_field_of members (codes "sort");
  offset = named_at offset_named members (codes "offset");
  as_ = needed_names members (codes "as");
}

-- an operation over the rows about a row
unfoldable pub window_operation_of : List Member → WindowOperation
window_operation_of members = record {
  op = needed_window_operation members (codes "op");
  field = field_at members (codes "field");
  param = whole_at members (codes "param");
  as_ = needed_text members (codes "as");
}

-- those under a name, none where there is no list
abbrev pub needed_window_operations : List Member → List ℕ → List WindowOperation
needed_window_operations members name = unwrap_or (objects_at window_operation_of members name) []

-- a number that is an end of a frame
abbrev pub frame_number : ℤ → Option (Option ℤ)
frame_number n = if is_whole n then Some (Some n) else None

-- an end of a frame: a whole number, or null
abbrev pub frame_end : Option ℤ → Option (Option ℤ)
frame_end None = Some None
frame_end (Some n) = frame_number n

-- from one end to another
abbrev pub frame_from : Option (Option ℤ) → Option (Option ℤ) → Option Frame
frame_from first last = option_and_then (λ a. option_map (λ b. record { first = a; last = b }) last) first

-- the end that an item is
abbrev pub frame_end_of : Json → Option (Option ℤ)
frame_end_of tree = option_and_then frame_end (bound_in (out-Json tree))

-- the rows about a row
abbrev pub frame_in : List Json → Option Frame
frame_in (first ∷ last ∷ []) = frame_from (frame_end_of first) (frame_end_of last)
frame_in items = None

-- the same under a name
abbrev pub frame_at : List Member → List ℕ → Option Frame
frame_at members name = option_and_then frame_in (found_at items_in members name)

-- `window`
unfoldable pub window_of : List Member → WindowTransform
window_of members = record {
  window = needed_window_operations members (codes "window");
  groupby = fields_at members (codes "groupby");
  sort = objects_at sort_field_of members (codes "sort");
  frame = frame_at members (codes "frame");
  ignore_peers = flag_at members (codes "ignorePeers");
}

-- the rows of which a lookup takes cells, those of this source
unfoldable pub lookup_from : Option (List ℕ) → List Member → LookupFrom
lookup_from source members = record {
  data_ = source;
  key = needed_field members (codes "key");
  fields = needed_fields members (codes "fields");
}

-- `lookup`
unfoldable pub lookup_of : Option (List ℕ) → List Member → LookupTransform
lookup_of source members = record {
  lookup = needed_field members (codes "lookup");
  from = lookup_from source (needed_members members (codes "from"));
  as_ = one_or_several members (codes "as");
  default = scalar_at members (codes "default");
}

-- `fold`
unfoldable pub fold_of : List Member → FoldTransform
fold_of members = record {
  fold = needed_fields members (codes "fold");
  as_ = two_texts_at members (codes "as");
}

-- a member of which the first decides what a transform is
unfoldable pub is_transform_kind : List ℕ → Bool
is_transform_kind name =
    bytes_eq name (codes "filter") || bytes_eq name (codes "calculate") || bytes_eq name (codes "bin")
    || bytes_eq name (codes "timeUnit") || bytes_eq name (codes "aggregate") || bytes_eq name (codes "joinaggregate")
    || bytes_eq name (codes "stack") || bytes_eq name (codes "window") || bytes_eq name (codes "lookup")
    || bytes_eq name (codes "fold")

-- the first of them, or no name
abbrev pub transform_kind : List Member → List ℕ
transform_kind members = option_map_or (λ (m : Member). m.name) (find (λ (m : Member). is_transform_kind m.name) members) []

-- a transform by its first deciding member; one without is a filter that no row passes
unfoldable pub transform_by : List ℕ → Option (List ℕ) → List Member → Transform
transform_by kind source members =
    if bytes_eq kind (codes "calculate") then transform.Calculate (calculate_of members)
    else (if bytes_eq kind (codes "bin") then transform.Bin (bin_of members)
    else (if bytes_eq kind (codes "timeUnit") then transform.TimeUnit (time_unit_of members)
    else (if bytes_eq kind (codes "aggregate") then transform.Aggregate (aggregate_of (codes "aggregate") members)
    else (if bytes_eq kind (codes "joinaggregate") then transform.JoinAggregate (aggregate_of (codes "joinaggregate") members)
    else (if bytes_eq kind (codes "stack") then transform.Stack (stack_of members)
    else (if bytes_eq kind (codes "window") then transform.Window (window_of members)
    else (if bytes_eq kind (codes "lookup") then transform.Lookup (lookup_of source members)
    else (if bytes_eq kind (codes "fold") then transform.Fold (fold_of members)
    else transform.Filter (needed_filter members (codes "filter"))))))))))

-- a transform, a lookup being one in this source
unfoldable pub transform_of : Option (List ℕ) → List Member → Transform
transform_of source members = transform_by (transform_kind members) source members

-- The rules at work.

-- members of these names, all false
abbrev flags : List (List ℕ) → List Member
flags [] = []
flags (name ∷ names) = record { name = name; value = json.Flag false } ∷ flags names

the_first_decides : transform_kind (flags (codes "as" ∷ codes "window" ∷ codes "fold" ∷ [])) ≡ codes "window"
unfolding is_transform_kind
the_first_decides = refl

there_are_bins_in_a_transform : needed_bin (flags (codes "bin" ∷ [])) (codes "bin") ≡ bin.Flag true
unfolding out-Json denote.Hole.Carrier.out
there_are_bins_in_a_transform = refl

to_the_row_before : frame_in (json.Null ∷ json.Number (negsuc 999999) ∷ []) ≡ Some (record { first = None; last = Some (negsuc 999999) })
unfolding out-Json denote.Hole.Carrier.out
to_the_row_before = refl

a_frame_ends_at_rows : frame_in (json.Null ∷ json.Number (pos 500000) ∷ []) ≡ None
unfolding out-Json denote.Hole.Carrier.out
a_frame_ends_at_rows = refl
