-- Transforms of rows.
use Rattle.std.specs.Prelude.{ℕ, Option, None, List, [], ◌∷◌, codes, if◌then◌else◌}
use Rattle.std.specs.Option.{option_map, option_and_then, unwrap_or}
use Rattle.std.specs.Str.{bytes_eq}
use Rattle.json_exact.specs.declared.json.Json.{Json, out-Json}
use Rattle.json_exact.specs.declared.json.Json.TheOpen as level
use Rattle.json_exact.specs.declared.json.Member.{Member}
use Rattle.json_exact.specs.Inside.{number_in}
use Rattle.vega_spec.specs.declared.transforms.Filter.{Filter}
use Rattle.vega_spec.specs.declared.transforms.Formula.{Formula}
use Rattle.vega_spec.specs.declared.transforms.Extent.{Extent}
use Rattle.vega_spec.specs.declared.transforms.Bin.{Bin}
use Rattle.vega_spec.specs.declared.transforms.BinExtent.{BinExtent}
use Rattle.vega_spec.specs.declared.transforms.BinExtent.TheVariants as bin_extent
use Rattle.vega_spec.specs.declared.transforms.TimeUnit.{TimeUnit}
use Rattle.vega_spec.specs.declared.transforms.Stack.{Stack}
use Rattle.vega_spec.specs.declared.transforms.Fold.{Fold}
use Rattle.vega_spec.specs.declared.transforms.Transform.{Transform}
use Rattle.vega_spec.specs.declared.transforms.Transform.TheVariants as transform
use Rattle.tree_readers.specs.Parts.{Opened, found_at, object_at, number_at, text_at, needed_text, texts_at, needed_texts, two_texts_at}
use Rattle.vega_building.specs.Parts.{needed_expression}
use Rattle.vega_building.specs.Names.{named_at, offset_named, needed_time_unit}
use Rattle.vega_building.specs.Orders.{sort_of}
use Rattle.vega_building.specs.Groupings.{aggregate_of, window_of, lookup_of}

-- `filter`
abbrev pub filter_of : List Member → Filter
filter_of members = record { expr = needed_expression members (codes "expr") }

-- `formula`
abbrev pub formula_of : List Member → Formula
formula_of members = record {
  expr = needed_expression members (codes "expr");
  as_ = needed_text members (codes "as");
}

-- `extent`
abbrev pub extent_of : List Member → Extent
extent_of members = record {
  field = needed_text members (codes "field");
  signal = needed_text members (codes "signal");
}

-- two numbers
abbrev pub numbers_in : List Json → Option BinExtent
numbers_in (a ∷ b ∷ []) =
    option_and_then (λ x. option_map (λ y. bin_extent.Pair x y) (number_in (out-Json b))) (number_in (out-Json a))
numbers_in items = None

-- the name of a signal
abbrev pub extent_signal : List Member → Option BinExtent
extent_signal members = option_map bin_extent.Signal (text_at members (codes "signal"))

-- two numbers, or the name of a signal
abbrev pub bin_extent_in : Opened → Option BinExtent
bin_extent_in (level.List items) = numbers_in items
bin_extent_in (level.Object members) = extent_signal members
bin_extent_in other = None

-- what bins take in, under a name
abbrev pub bin_extent_at : List Member → List ℕ → Option BinExtent
bin_extent_at = found_at bin_extent_in

-- the same, the signal of no name where it isn't said
abbrev pub needed_bin_extent : List Member → List ℕ → BinExtent
needed_bin_extent members name = unwrap_or (bin_extent_at members name) (bin_extent.Signal [])

-- `bin`
abbrev pub bin_of : List Member → Bin
bin_of members = record {
  field = needed_text members (codes "field");
  extent = needed_bin_extent members (codes "extent");
  maxbins = number_at members (codes "maxbins");
  step = number_at members (codes "step");
  as_ = two_texts_at members (codes "as");
}

-- `timeunit`
abbrev pub time_unit_of : List Member → TimeUnit
time_unit_of members = record {
  field = needed_text members (codes "field");
  units = needed_time_unit members (codes "units");
  as_ = two_texts_at members (codes "as");
}

-- `stack`
abbrev pub stack_of : List Member → Stack
stack_of members = record {
  groupby = texts_at members (codes "groupby");
  field = needed_text members (codes "field");
  sort = object_at sort_of members (codes "sort");
  offset = named_at offset_named members (codes "offset");
  as_ = two_texts_at members (codes "as");
}

-- `fold`
abbrev pub fold_of : List Member → Fold
fold_of members = record {
  fields = needed_texts members (codes "fields");
  as_ = two_texts_at members (codes "as");
}

-- a transform by its type; one of no known type is a filter
abbrev pub transform_by : List ℕ → List Member → Transform
transform_by name members =
    if bytes_eq name (codes "formula") then transform.Formula (formula_of members)
    else (if bytes_eq name (codes "extent") then transform.Extent (extent_of members)
    else (if bytes_eq name (codes "bin") then transform.Bin (bin_of members)
    else (if bytes_eq name (codes "timeunit") then transform.TimeUnit (time_unit_of members)
    else (if bytes_eq name (codes "aggregate") then transform.Aggregate (aggregate_of members)
    else (if bytes_eq name (codes "joinaggregate") then transform.JoinAggregate (aggregate_of members)
    else (if bytes_eq name (codes "stack") then transform.Stack (stack_of members)
    else (if bytes_eq name (codes "window") then transform.Window (window_of members)
    else (if bytes_eq name (codes "lookup") then transform.Lookup (lookup_of members)
    else (if bytes_eq name (codes "fold") then transform.Fold (fold_of members)
    else transform.Filter (filter_of members))))))))))

-- a transform
abbrev pub transform_of : List Member → Transform
transform_of members = transform_by (needed_text members (codes "type")) members
