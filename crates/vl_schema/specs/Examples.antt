-- Which layout objects have, by the names of their members.
use Rattle.std.specs.Prelude.{◌≡◌, ℕ, true, false, Option, Some, None, List, [], ◌∷◌, map, codes, refl}
use Rattle.json_exact.specs.declared.json.Json.{Json}
use Rattle.json_exact.specs.declared.json.Member.{Member}
use Rattle.spec_schema.specs.declared.layout.Layout.{Layout}
use Rattle.spec_schema.specs.declared.layout.Test.TheVariants.{Has, Leads}
use Rattle.spec_schema.specs.Layouts.{layout_in}
use Rattle.vl_schema.specs.declared.codes.TheConstants.{CONDITION, DATA, ENCODING, FACET_CHANNEL, FILTER, LAYER_VIEW, PARAMETER, SCALAR, TOP}
use Rattle.vl_schema.specs.declared.codes.TheConstants.{TRANSFORM, VIEW, VIEW_KINDS}
use Rattle.vl_schema.specs.Schema.{vl_schema, view_layouts, source_layouts, channel_layouts, condition_layouts, other_layouts, layouts}
use Rattle.vl_schema.specs.Words.{view_kinds, parameter_kinds, data_parts, filter_kinds, filter_parts, comparisons, test_kinds, channel_kinds}
use Rattle.vl_schema.specs.Words.{field_names, transform_kinds, transform_others, condition_alone, facet_parts}
use Rattle.vl_schema.specs.Views.{unit_view, layered_view, faceted_view, row_view, column_view, grid_view, led_views, joined_views, other_views}
use Rattle.vl_schema.specs.Views.{views}
use Rattle.vl_schema.specs.Layers.{faceted_in_layer, row_in_layer, column_in_layer, grid_in_layer, spec_in_layer, led_layers, other_layers}
use Rattle.vl_schema.specs.Layers.{all_layers}
use Rattle.vl_schema.specs.Sources.{source_of_values, source_of_file, format, parse, datasets, all_sources}
use Rattle.vl_schema.specs.Parameters.{value_parameter, computed_parameter, selection_parameter, point, interval, no_selection, all_parameters}
use Rattle.vl_schema.specs.Marks.{sized_mark, mark, all_marks}
use Rattle.vl_schema.specs.Channels.{written_channel, datum_channel, field_channel, encoding, layer_encoding, channels_of, all_channels}
use Rattle.vl_schema.specs.Facets.{facet_by_parts, facet_definition, facet_with_condition, all_facets}
use Rattle.vl_schema.specs.Conditions.{value_by_selection, field_by_selection, value_by_filter, field_by_filter, conditions_of}
use Rattle.vl_schema.specs.Filters.{filter_by_selection, comparison, combination, cell_comparisons, combinations, other_filters, all_filters}
use Rattle.vl_schema.specs.Transforms.{filter, calculate, bin, time_unit, aggregate, join_aggregate, stack, window, lookup, fold, no_transform}
use Rattle.vl_schema.specs.Transforms.{plain_transforms, all_transforms}
use Rattle.vl_schema.specs.Operations.{operation, window_operation, sort_field, lookup_from, bins, all_operations}
use Rattle.vl_schema.specs.Guides.{scale, selected_domain, axis_along, legend, header, sort_by_count, sort_by_field, all_axes, all_guides}
use Rattle.vl_schema.specs.Sizes.{step, config, config_view, resolve, resolve_scale, all_sizes}

-- members of these names, all with one value
named : Json → List (List ℕ) → List Member
named value [] = []
named value (name ∷ names) = record { name = name; value = value } ∷ named value names

-- objects with members of these names, and the layout that each has
cases : List (ℕ × List (List ℕ) × Option Layout)
cases =
    (TOP, codes "title" ∷ codes "mark" ∷ codes "layer" ∷ [], Some (unit_view TOP ENCODING true (Leads VIEW_KINDS (codes "mark") ∷ []))) ∷
    (VIEW, codes "spec" ∷ [], Some (faceted_view VIEW false (Has (codes "spec") ∷ []))) ∷
    (TOP, codes "name" ∷ [], Some (unit_view TOP ENCODING true [])) ∷
    (LAYER_VIEW, codes "hconcat" ∷ [], Some row_in_layer) ∷
    (PARAMETER, codes "name" ∷ [], Some value_parameter) ∷
    (PARAMETER, codes "name" ∷ codes "value" ∷ codes "expr" ∷ [], None) ∷
    (DATA, codes "name" ∷ codes "url" ∷ [], Some source_of_file) ∷
    (DATA, codes "values" ∷ codes "url" ∷ [], None) ∷
    (FILTER, codes "param" ∷ codes "field" ∷ [], None) ∷
    (FILTER, codes "field" ∷ codes "equal" ∷ codes "lt" ∷ [], None) ∷
    (FILTER, codes "timeUnit" ∷ codes "field" ∷ codes "equal" ∷ [], Some (comparison (codes "equal") SCALAR)) ∷
    (CONDITION, codes "param" ∷ codes "empty" ∷ [], None) ∷
    (CONDITION, codes "param" ∷ codes "value" ∷ codes "field" ∷ [], Some (value_by_selection CONDITION)) ∷
    (TRANSFORM, codes "as" ∷ codes "field" ∷ [], None) ∷
    (TRANSFORM, codes "sample" ∷ [], Some no_transform) ∷
    (FACET_CHANNEL, codes "condition" ∷ [], None) ∷
    []

these_are_their_layouts : (value : Json) → map (λ c. layout_in vl_schema c.0 (named value c.1)) cases ≡ map (λ c. c.2) cases
unfolding named cases vl_schema view_layouts source_layouts channel_layouts condition_layouts other_layouts layouts led_views
    joined_views other_views views led_layers other_layers all_layers all_sources all_parameters all_marks channels_of all_channels
    all_facets conditions_of cell_comparisons combinations other_filters all_filters plain_transforms all_transforms all_operations
    all_axes all_guides all_sizes unit_view layered_view faceted_view row_view column_view grid_view faceted_in_layer row_in_layer
    column_in_layer grid_in_layer spec_in_layer source_of_values source_of_file format parse datasets value_parameter
    computed_parameter selection_parameter point interval no_selection sized_mark mark written_channel datum_channel field_channel
    encoding layer_encoding facet_by_parts facet_definition facet_with_condition value_by_selection field_by_selection
    value_by_filter field_by_filter filter_by_selection comparison combination filter calculate bin time_unit aggregate
    join_aggregate stack window lookup fold no_transform operation window_operation sort_field lookup_from bins scale
    selected_domain axis_along legend header sort_by_count sort_by_field step config config_view resolve resolve_scale view_kinds
    parameter_kinds data_parts filter_kinds filter_parts comparisons test_kinds channel_kinds field_names transform_kinds
    transform_others condition_alone facet_parts
these_are_their_layouts value = refl
