-- Definitions of channels, apart from their conditions.
use Rattle.std.specs.Prelude.{◌≡◌, refl, ℕ, Bool, false, ◌||◌, Option, Some, None, List, [], ◌∷◌, find, map, codes, if◌then◌else◌}
use Rattle.std.specs.Option.{option_map, option_map_or}
use Rattle.std.specs.Str.{bytes_eq}
use Rattle.json_exact.specs.declared.json.Json.{out-Json}
use Rattle.json_exact.specs.declared.json.Json.TheVariants as json
use Rattle.json_exact.specs.declared.json.Json.TheOpen as level
use Rattle.json_exact.specs.declared.json.Member.{Member}
use Rattle.cell_value.specs.declared.cell.Cell.TheVariants as cell
use Rattle.vl_spec.specs.declared.definitions.Definition.{Definition}
use Rattle.vl_spec.specs.declared.definitions.Definition.TheVariants as definition
use Rattle.vl_spec.specs.declared.definitions.DatumDefinition.{DatumDefinition}
use Rattle.vl_spec.specs.declared.definitions.FieldDefinition.{FieldDefinition}
use Rattle.vl_spec.specs.declared.definitions.Bin.{Bin}
use Rattle.vl_spec.specs.declared.definitions.Bin.TheVariants as bin
use Rattle.vl_spec.specs.declared.definitions.BinSettings.{BinSettings}
use Rattle.vl_spec.specs.declared.definitions.Stacking.{Stacking}
use Rattle.vl_spec.specs.declared.definitions.Stacking.TheVariants as stacking
use Rattle.vl_spec.specs.declared.orders.Order.TheVariants as order
use Rattle.vl_spec.specs.declared.orders.Offset.TheVariants as offset
use Rattle.vl_spec.specs.declared.orders.Sort.{Sort}
use Rattle.vl_spec.specs.declared.orders.Sort.TheVariants as sort
use Rattle.vl_spec.specs.declared.orders.FieldSort.{FieldSort}
use Rattle.tree_readers.specs.Parts.{Opened, found_at, object_at, text_at}
use Rattle.vl_building.specs.Fields.{field_at}
use Rattle.vl_building.specs.Numbers.{space_at, count_at, bin_step_at}
use Rattle.vl_building.specs.Values.{scalar_of, needed_scalar, title_at, nullable_at}
use Rattle.vl_building.specs.Names.{named_at, order_named, offset_named, field_type_named, operation_named, time_unit_named}
use Rattle.vl_building.specs.Guides.{axis_of, legend_of, header_of, scale_of}

-- in which way a field is put into bins
unfoldable pub bin_settings_of : List Member → BinSettings
bin_settings_of members = record {
  maxbins = count_at members (codes "maxbins");
  step = bin_step_at members (codes "step");
}

-- how a field is put into bins
abbrev pub bin_in : Opened → Option Bin
bin_in (level.Flag b) = Some (bin.Flag b)
bin_in (level.Object members) = Some (bin.Settings (bin_settings_of members))
bin_in other = None

-- the same under a name
abbrev pub bin_at : List Member → List ℕ → Option Bin
bin_at = found_at bin_in

-- an order that is a text
unfoldable pub sort_named : List ℕ → Option Sort
sort_named name =
    if bytes_eq name (codes "ascending") then Some (sort.Cells order.Ascending)
    else (if bytes_eq name (codes "descending") then Some (sort.Cells order.Descending)
    else (if bytes_eq name (codes "x") then Some (sort.X order.Ascending)
    else (if bytes_eq name (codes "-x") then Some (sort.X order.Descending)
    else (if bytes_eq name (codes "y") then Some (sort.Y order.Ascending)
    else (if bytes_eq name (codes "-y") then Some (sort.Y order.Descending)
    else None)))))

-- an order by an aggregate of a field
unfoldable pub field_sort_of : List Member → FieldSort
field_sort_of members = record {
  field = field_at members (codes "field");
  op = named_at operation_named members (codes "op");
  order = named_at order_named members (codes "order");
}

-- how the cells of a channel stand
abbrev pub sort_in : Opened → Option Sort
sort_in level.Null = Some sort.Null
sort_in (level.Text text) = sort_named text
sort_in (level.List items) = Some (sort.Listed (map scalar_of items))
sort_in (level.Object members) = Some (sort.Field (field_sort_of members))
sort_in other = None

-- the same under a name
abbrev pub sort_at : List Member → List ℕ → Option Sort
sort_at = found_at sort_in

-- a stack that begins somewhere
abbrev pub stacking_named : List ℕ → Option Stacking
stacking_named name = option_map stacking.Offset (offset_named name)

-- how a channel is stacked
abbrev pub stacking_in : Opened → Option Stacking
stacking_in level.Null = Some stacking.Null
stacking_in (level.Flag b) = Some (stacking.Flag b)
stacking_in (level.Text text) = stacking_named text
stacking_in other = None

-- the same under a name
abbrev pub stacking_at : List Member → List ℕ → Option Stacking
stacking_at = found_at stacking_in

-- a cell that is written, on a scale
unfoldable pub datum_definition_of : List Member → DatumDefinition
datum_definition_of members = record {
  datum = needed_scalar members (codes "datum");
  type_ = named_at field_type_named members (codes "type");
  scale = object_at scale_of members (codes "scale");
  axis = nullable_at axis_of members (codes "axis");
  legend = nullable_at legend_of members (codes "legend");
  title = title_at members (codes "title");
}

-- the cells of a field, or what is made of it
unfoldable pub field_definition_of : List Member → FieldDefinition
field_definition_of members = record {
  field = field_at members (codes "field");
  type_ = named_at field_type_named members (codes "type");
  aggregate = named_at operation_named members (codes "aggregate");
  bin = bin_at members (codes "bin");
  time_unit = named_at time_unit_named members (codes "timeUnit");
  title = title_at members (codes "title");
  sort = sort_at members (codes "sort");
  scale = object_at scale_of members (codes "scale");
  stack = stacking_at members (codes "stack");
  axis = nullable_at axis_of members (codes "axis");
  legend = nullable_at legend_of members (codes "legend");
  header = object_at header_of members (codes "header");
  format = text_at members (codes "format");
  columns = count_at members (codes "columns");
  spacing = space_at members (codes "spacing");
}

-- a member of which the first decides what a definition is
unfoldable pub is_channel_kind : List ℕ → Bool
is_channel_kind name =
    bytes_eq name (codes "value") || bytes_eq name (codes "datum") || bytes_eq name (codes "field")
    || bytes_eq name (codes "aggregate") || bytes_eq name (codes "bin") || bytes_eq name (codes "timeUnit")

-- the first of them, or no name
abbrev pub channel_kind : List Member → List ℕ
channel_kind members = option_map_or (λ (m : Member). m.name) (find (λ (m : Member). is_channel_kind m.name) members) []

-- a definition by its first deciding member
unfoldable pub definition_by : List ℕ → List Member → Definition
definition_by kind members =
    if bytes_eq kind (codes "value") then definition.Value (needed_scalar members (codes "value"))
    else (if bytes_eq kind (codes "datum") then definition.Datum (datum_definition_of members)
    else definition.Field (field_definition_of members))

-- a definition
unfoldable pub definition_of : List Member → Definition
definition_of members = definition_by (channel_kind members) members

-- The rules at work.

-- members of these names, all null
abbrev nulls : List (List ℕ) → List Member
nulls [] = []
nulls (name ∷ names) = record { name = name; value = json.Null } ∷ nulls names

the_first_decides : channel_kind (nulls (codes "title" ∷ codes "aggregate" ∷ codes "value" ∷ [])) ≡ codes "aggregate"
unfolding is_channel_kind
the_first_decides = refl

a_value_before_a_field : definition_of (nulls (codes "value" ∷ codes "field" ∷ [])) ≡ definition.Value cell.Null
unfolding out-Json denote.Hole.Carrier.out definition_of definition_by is_channel_kind
a_value_before_a_field = refl

by_y_from_the_greatest : sort_named (codes "-y") ≡ Some (sort.Y order.Descending)
unfolding sort_named
by_y_from_the_greatest = refl

null_is_an_order : sort_in level.Null ≡ Some sort.Null
null_is_an_order = refl

no_bins_are_said : bin_in (level.Flag false) ≡ Some (bin.Flag false)
no_bins_are_said = refl

bins_by_a_name_are_none : bin_in (level.Text (codes "binned")) ≡ None
bins_by_a_name_are_none = refl

a_stack_by_its_offset : stacking_in (level.Text (codes "center")) ≡ Some (stacking.Offset offset.Center)
unfolding offset_named
a_stack_by_its_offset = refl
