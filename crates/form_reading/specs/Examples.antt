-- A small chart of the first form, in both orders of its channels, as the form and as a Vega-Lite specification.
use Rattle.std.specs.Prelude.{◌≡◌, refl, ℕ, pos, true, false, Some, List, [], ◌∷◌, map, codes}
use Rattle.json_exact.specs.declared.json.Json.{Json, out-Json}
use Rattle.json_exact.specs.declared.json.Json.TheVariants as json
use Rattle.json_exact.specs.declared.json.Json.TheBlock.{hidden-the_row-Json-0, hidden-the_row-Member-1, shown-the_row-Json-0, shown-the_row-Member-1}
use Rattle.json_exact.specs.declared.json.Member.{Member}
use Rattle.vl_schema.specs.Shapes.{leaves, numbers, named, lists, plain_objects, objects}
use Rattle.vl_schema.specs.Schema.{vl_schema, view_layouts, source_layouts, channel_layouts, condition_layouts, other_layouts, layouts}
use Rattle.vl_schema.specs.Words.{view_kinds, data_parts, channel_kinds, mark_names, type_names}
use Rattle.vl_schema.specs.Views.{unit_view, layered_view, faceted_view, row_view, column_view, grid_view, led_views, joined_views, other_views}
use Rattle.vl_schema.specs.Views.{views, any_view, top_only}
use Rattle.vl_schema.specs.Layers.{faceted_in_layer, row_in_layer, column_in_layer, grid_in_layer, spec_in_layer, led_layers, other_layers}
use Rattle.vl_schema.specs.Layers.{all_layers}
use Rattle.vl_schema.specs.Sources.{source_of_values, source_of_file, format, parse, datasets, all_sources}
use Rattle.vl_schema.specs.Parameters.{value_parameter, computed_parameter, selection_parameter, point, interval, no_selection, all_parameters}
use Rattle.vl_schema.specs.Marks.{sized_mark, mark, all_marks}
use Rattle.vl_schema.specs.Channels.{field_members, written_channel, datum_channel, field_channel, encoding, layer_encoding, channels_of, all_channels}
use Rattle.vl_schema.specs.Facets.{all_facets}
use Rattle.vl_schema.specs.Conditions.{conditions_of}
use Rattle.vl_schema.specs.Filters.{cell_comparisons, combinations, other_filters, all_filters}
use Rattle.vl_schema.specs.Transforms.{plain_transforms, all_transforms}
use Rattle.vl_schema.specs.Operations.{all_operations}
use Rattle.vl_schema.specs.Guides.{all_axes, all_guides}
use Rattle.vl_schema.specs.Sizes.{all_sizes}
use Rattle.vl_building.specs.Channels.{channel_with, channel_in, encoding_of}
use Rattle.vl_building.specs.Definitions.{is_channel_kind, definition_by, definition_of, field_definition_of}
use Rattle.vl_building.specs.Names.{field_type_named, mark_type_named}
use Rattle.vl_building.specs.Sources.{data_at}
use Rattle.vl_building.specs.Spec.{spec_of, spec_with}
use Rattle.vl_building.specs.Views.{is_view_kind, kind_by, unit_of, view_with}
use Rattle.first_form.specs.declared.form.FirstForm.{FirstForm}
use Rattle.first_form.specs.FirstForm.{form_of}
use Rattle.chart_meaning.specs.FirstForms.{form_spec}
use Rattle.form_reading.specs.Texts.{y_stands_first}

-- a member of a name
abbrev member : List ℕ → Json → Member
member name value = record { name = name; value = value }

-- one value
abbrev values : Json
values = json.List (json.Object (member (codes "a") (json.Text (codes "A")) ∷ member (codes "b") (json.Number (pos 28000000)) ∷ []) ∷ [])

abbrev source : Json
source = json.Object (member (codes "values") values ∷ member (codes "name") (json.Text (codes "t")) ∷ [])

abbrev channel : List ℕ → List ℕ → Json
channel field kind = json.Object (member (codes "axis") json.Null ∷ member (codes "field") (json.Text field) ∷ member (codes "type") (json.Text kind) ∷ [])

abbrev along : Member
along = member (codes "x") (channel (codes "a") (codes "nominal"))

abbrev upward : Member
upward = member (codes "y") (channel (codes "b") (codes "quantitative"))

-- a chart with channels in this order
abbrev chart : List Member → Json
chart channels =
    json.Object (member (codes "mark") (json.Text (codes "bar")) ∷ member (codes "encoding") (json.Object channels) ∷ member (codes "data") source ∷ [])

abbrev x_first : Json
x_first = chart (along ∷ upward ∷ [])

abbrev y_first : Json
y_first = chart (upward ∷ along ∷ [])

-- its form
abbrev form : FirstForm
form = record { name = codes "t"; x = codes "a"; y = codes "b"; values = record { category = codes "A"; amount = pos 28000000 } ∷ [] }

both_are_of_the_form : map form_of (x_first ∷ y_first ∷ []) ≡ Some form ∷ Some form ∷ []
unfolding out-Json hidden-the_row-Json-0 hidden-the_row-Member-1 shown-the_row-Json-0 shown-the_row-Member-1 denote.Hole.Carrier.out
    denote.Hole.Carrier.hidden denote.Hole.Carrier.shown
both_are_of_the_form = refl

y_stands_first_in_one : map y_stands_first (x_first ∷ y_first ∷ []) ≡ false ∷ true ∷ []
unfolding out-Json hidden-the_row-Json-0 hidden-the_row-Member-1 shown-the_row-Json-0 shown-the_row-Member-1 denote.Hole.Carrier.out
    denote.Hole.Carrier.hidden denote.Hole.Carrier.shown
y_stands_first_in_one = refl

both_say_its_specification : map spec_of (x_first ∷ y_first ∷ []) ≡ form_spec false (Some values) form ∷ form_spec true (Some values) form ∷ []
unfolding vl_schema view_layouts source_layouts channel_layouts condition_layouts other_layouts layouts led_views joined_views other_views
    views led_layers other_layers all_layers all_sources all_parameters all_marks channels_of all_channels all_facets conditions_of
    cell_comparisons combinations other_filters all_filters plain_transforms all_transforms all_operations all_axes all_guides all_sizes
    unit_view layered_view faceted_view row_view column_view grid_view any_view top_only faceted_in_layer row_in_layer column_in_layer
    grid_in_layer spec_in_layer source_of_values source_of_file format parse datasets value_parameter computed_parameter
    selection_parameter point interval no_selection sized_mark mark written_channel datum_channel field_channel encoding layer_encoding
    view_kinds data_parts channel_kinds mark_names type_names field_members leaves numbers named lists plain_objects objects spec_with view_with kind_by unit_of
    is_view_kind encoding_of channel_in channel_with definition_of definition_by is_channel_kind field_definition_of field_type_named
    mark_type_named data_at out-Json hidden-the_row-Json-0 hidden-the_row-Member-1 shown-the_row-Json-0 shown-the_row-Member-1
    denote.Hole.Carrier.out denote.Hole.Carrier.hidden denote.Hole.Carrier.shown
both_say_its_specification = refl
