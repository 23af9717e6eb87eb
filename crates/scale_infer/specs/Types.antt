-- What kind of cells a definition shows. Its own `type` says so. Where that is missing, a field with bins or an aggregate is
-- quantitative, one in a time unit temporal, one whose `sort` is a list ordinal; else its scale says more: one of the type `linear` has
-- numbers, one of the type `time` instants; every other definition is nominal. `bin: false` is no bin. A cell that is written, `datum`,
-- has none of these but a type and a scale. Of an aggregate and bins in one definition the aggregate acts.
use Rattle.std.specs.Prelude.{◌≡◌, refl, ℕ, ◌==◌, ◌&&◌, ◌||◌, not, Bool, true, false, Option, Some, None, [], is_some, unwrap_or, if◌then◌else◌}
use Rattle.std.specs.Option.{option_map_or, option_and_then}
use Rattle.cell_value.specs.declared.cell.Cell.TheVariants as cell
use Rattle.vl_spec.specs.declared.definitions.Definition.{Definition}
use Rattle.vl_spec.specs.declared.definitions.Definition.TheVariants as definition
use Rattle.vl_spec.specs.declared.definitions.FieldDefinition.{FieldDefinition}
use Rattle.vl_spec.specs.declared.definitions.FieldType.{FieldType}
use Rattle.vl_spec.specs.declared.definitions.FieldType.TheVariants.{Quantitative, Temporal, Ordinal, Nominal}
use Rattle.vl_spec.specs.declared.definitions.Bin.{Bin}
use Rattle.vl_spec.specs.declared.definitions.Bin.TheVariants as bin
use Rattle.vl_spec.specs.declared.orders.Sort.{Sort}
use Rattle.vl_spec.specs.declared.orders.Sort.TheVariants as sort
use Rattle.vl_spec.specs.declared.scales.Scale.{Scale}
use Rattle.scale_infer.specs.declared.codes.TheConstants.{LINEAR, TIME}

-- the scale of a definition; a value has none
abbrev pub scale_in : Definition → Option Scale
scale_in (definition.Value value) = None
scale_in (definition.Datum d) = d.scale
scale_in (definition.Field d) = d.scale

-- the type of a scale that may be absent
abbrev pub kind_said : Option Scale → Option ℕ
kind_said scale = option_and_then (λ (s : Scale). s.type_) scale

-- whether there are bins: `false` is none
abbrev pub are_bins : Bin → Bool
are_bins (bin.Flag flag) = flag
are_bins (bin.Settings settings) = true

abbrev pub has_bins : Option Bin → Bool
has_bins given = option_map_or are_bins given false

-- whether an order is a list
abbrev pub is_list : Sort → Bool
is_list sort.Null = false
is_list (sort.Cells order) = false
is_list (sort.X order) = false
is_list (sort.Y order) = false
is_list (sort.Listed cells) = true
is_list (sort.Field by) = false

abbrev pub has_list : Option Sort → Bool
has_list given = option_map_or is_list given false

-- what the type of a scale says of the cells
abbrev pub type_by_kind : Option ℕ → FieldType
type_by_kind None = Nominal
type_by_kind (Some kind) = if kind == LINEAR then Quantitative else (if kind == TIME then Temporal else Nominal)

-- the type of a field that says none
abbrev pub type_missing : FieldDefinition → FieldType
type_missing d =
    if has_bins d.bin || is_some d.aggregate then Quantitative
    else (if is_some d.time_unit then Temporal
    else (if has_list d.sort then Ordinal
    else type_by_kind (kind_said d.scale)))

-- what kind of cells a definition shows; a value is never asked
abbrev pub type_of : Definition → FieldType
type_of (definition.Value value) = Nominal
type_of (definition.Datum d) = unwrap_or d.type_ (type_by_kind (kind_said d.scale))
type_of (definition.Field d) = unwrap_or d.type_ (type_missing d)

-- whether a definition shows an aggregate
abbrev pub is_aggregated : Definition → Bool
is_aggregated (definition.Value value) = false
is_aggregated (definition.Datum d) = false
is_aggregated (definition.Field d) = is_some d.aggregate

-- whether it shows bins
abbrev pub is_binned : Definition → Bool
is_binned (definition.Value value) = false
is_binned (definition.Datum d) = false
is_binned (definition.Field d) = has_bins d.bin && not (is_some d.aggregate)

-- numbers, and instants, lie on a line; other cells stand apart
abbrev pub is_continuous : FieldType → Bool
is_continuous Quantitative = true
is_continuous Temporal = true
is_continuous Ordinal = false
is_continuous Nominal = false

abbrev pub is_quantitative : FieldType → Bool
is_quantitative Quantitative = true
is_quantitative Temporal = false
is_quantitative Ordinal = false
is_quantitative Nominal = false

abbrev pub is_temporal : FieldType → Bool
is_temporal Quantitative = false
is_temporal Temporal = true
is_temporal Ordinal = false
is_temporal Nominal = false

-- The rules at work.

-- a scale that says its type alone
abbrev pub scale_with : Option ℕ → Scale
scale_with kind = record {
  type_ = kind;
  domain = None;
  range = None;
  scheme = None;
  zero = None;
  nice = None;
  padding = None;
  padding_inner = None;
  padding_outer = None;
  reverse = None;
}

-- a field that says these alone
abbrev pub field_with : Option FieldType → Option ℕ → Option Bin → Option ℕ → Option Sort → Option Scale → Definition
field_with type_ aggregate bin unit sort scale = definition.Field record {
  field = None;
  type_ = type_;
  aggregate = aggregate;
  bin = bin;
  time_unit = unit;
  title = None;
  sort = sort;
  scale = scale;
  stack = None;
  axis = None;
  legend = None;
  header = None;
  format = None;
  columns = None;
  spacing = None;
}

-- a cell that is written, with these
abbrev pub datum_with : Option FieldType → Option Scale → Definition
datum_with type_ scale = definition.Datum record {
  datum = cell.Null;
  type_ = type_;
  scale = scale;
  axis = None;
  legend = None;
  title = None;
}

a_field_is_nominal : type_of (field_with None None None None None None) ≡ Nominal
a_field_is_nominal = refl

its_own_type_counts : type_of (field_with (Some Ordinal) (Some 4) None None None None) ≡ Ordinal
its_own_type_counts = refl

an_aggregate_is_a_number : type_of (field_with None (Some 4) None (Some 0) None None) ≡ Quantitative
an_aggregate_is_a_number = refl

bins_before_a_time_unit : type_of (field_with None None (Some (bin.Flag true)) (Some 0) None None) ≡ Quantitative
bins_before_a_time_unit = refl

no_bins_by_false : type_of (field_with None None (Some (bin.Flag false)) (Some 0) None None) ≡ Temporal
no_bins_by_false = refl

a_list_before_its_scale : type_of (field_with None None None None (Some (sort.Listed [])) (Some (scale_with (Some 1)))) ≡ Ordinal
a_list_before_its_scale = refl

an_order_is_no_list : type_of (field_with None None None None (Some sort.Null) (Some (scale_with (Some 1)))) ≡ Temporal
an_order_is_no_list = refl

by_a_linear_scale : type_of (field_with None None None None None (Some (scale_with (Some 0)))) ≡ Quantitative
by_a_linear_scale = refl

a_band_says_nothing : type_of (field_with None None None None None (Some (scale_with (Some 2)))) ≡ Nominal
a_band_says_nothing = refl

a_datum_by_its_scale : type_of (datum_with None (Some (scale_with (Some 0)))) ≡ Quantitative
a_datum_by_its_scale = refl

a_datum_by_its_type : type_of (datum_with (Some Temporal) (Some (scale_with (Some 0)))) ≡ Temporal
a_datum_by_its_type = refl

the_aggregate_acts : is_binned (field_with None (Some 5) (Some (bin.Flag true)) None None None) ≡ false
the_aggregate_acts = refl
