-- What the table of members says of the values that a text of the form has.
use Rattle.std.proofs.Common.{◌≡◌, ℕ, true, List, [], ◌∷◌, Some, None, codes, refl}
use Rattle.json_exact.specs.declared.json.Json.{Json}
use Rattle.json_exact.specs.declared.json.Json.TheOpen as level
use Rattle.json_exact.specs.declared.json.Member.{Member}
use Rattle.spec_schema.specs.declared.form.Form.TheVariants as form
use Rattle.spec_schema.specs.declared.layout.Layout.{Layout}
use Rattle.spec_schema.specs.declared.layout.Test.TheVariants.{Leads}
use Rattle.spec_schema.specs.Values.{Opened}
use Rattle.spec_schema.specs.Layouts.{shape_in}
use Rattle.spec_schema.specs.Forms.{taken_form, layout_of}
use Rattle.vl_schema.specs.declared.codes.TheConstants.{DATA, ENCODING, FREE, MARK, PARAMETERS, TEXT, TOP, VIEW_KINDS, X_CHANNEL, Y_CHANNEL}
use Rattle.vl_schema.specs.Shapes.{leaves, numbers, named, lists, plain_objects, objects}
use Rattle.vl_schema.specs.Schema.{vl_schema, view_layouts, source_layouts, channel_layouts, condition_layouts, other_layouts, layouts}
use Rattle.vl_schema.specs.Words.{view_kinds, data_parts}
use Rattle.vl_schema.specs.Views.{unit_view, layered_view, faceted_view, row_view, column_view, grid_view, led_views, joined_views, other_views}
use Rattle.vl_schema.specs.Views.{views, any_view, top_only}
use Rattle.vl_schema.specs.Layers.{faceted_in_layer, row_in_layer, column_in_layer, grid_in_layer, spec_in_layer, led_layers, other_layers}
use Rattle.vl_schema.specs.Layers.{all_layers}
use Rattle.vl_schema.specs.Sources.{source_of_values, source_of_file, format, parse, datasets, all_sources}
use Rattle.vl_schema.specs.Parameters.{value_parameter, computed_parameter, selection_parameter, point, interval, no_selection, all_parameters}
use Rattle.vl_schema.specs.Marks.{sized_mark, mark, all_marks}
use Rattle.vl_schema.specs.Channels.{written_channel, datum_channel, field_channel, encoding, layer_encoding, channels_of, all_channels}
use Rattle.vl_schema.specs.Facets.{all_facets}
use Rattle.vl_schema.specs.Conditions.{conditions_of}
use Rattle.vl_schema.specs.Filters.{cell_comparisons, combinations, other_filters, all_filters}
use Rattle.vl_schema.specs.Transforms.{plain_transforms, all_transforms}
use Rattle.vl_schema.specs.Operations.{all_operations}
use Rattle.vl_schema.specs.Guides.{all_axes, all_guides}
use Rattle.vl_schema.specs.Sizes.{all_sizes}
use Rattle.form_reading.proofs.Orders.{member}

-- ---- forms

pub null_no_data : taken_form vl_schema DATA level.Null ≡ None
unfolding vl_schema leaves numbers named lists plain_objects objects
null_no_data = refl

pub text_no_data : (t : List ℕ) → taken_form vl_schema DATA (level.Text t) ≡ None
unfolding vl_schema leaves numbers named lists plain_objects objects
text_no_data t = refl

pub null_no_parameters : taken_form vl_schema PARAMETERS level.Null ≡ None
unfolding vl_schema leaves numbers named lists plain_objects objects
null_no_parameters = refl

pub text_no_parameters : (t : List ℕ) → taken_form vl_schema PARAMETERS (level.Text t) ≡ None
unfolding vl_schema leaves numbers named lists plain_objects objects
text_no_parameters t = refl

pub taken_free : (o : Opened) → taken_form vl_schema FREE o ≡ Some form.Free
unfolding vl_schema leaves numbers named lists plain_objects objects
taken_free o = refl

-- ---- layouts

-- an object has a form, and a layout
pub record HasLayout (object : ℕ) (members : List Member) (layout : Layout) : Type 0 where
  pub taken : taken_form vl_schema object (level.Object members) ≡ Some (form.Object object)
  pub laid : layout_of vl_schema (form.Object object) members ≡ Some layout

-- the unit at the top
abbrev pub top_unit : Layout
top_unit = unit_view TOP ENCODING true (Leads VIEW_KINDS (codes "mark") ∷ [])

-- data, a mark and an encoding in any order
abbrev pub d : Json → Member
d = member (codes "data")

abbrev pub m : Json → Member
m = member (codes "mark")

abbrev pub e : Json → Member
e = member (codes "encoding")

pub top_dme : (dv mv ev : Json) → HasLayout TOP (d dv ∷ m mv ∷ e ev ∷ []) top_unit
unfolding vl_schema view_layouts source_layouts channel_layouts condition_layouts other_layouts layouts led_views
    joined_views other_views views led_layers other_layers all_layers all_sources all_parameters all_marks channels_of all_channels
    all_facets conditions_of cell_comparisons combinations other_filters all_filters plain_transforms all_transforms all_operations
    all_axes all_guides all_sizes unit_view layered_view faceted_view row_view column_view grid_view faceted_in_layer row_in_layer
    column_in_layer grid_in_layer spec_in_layer source_of_values source_of_file format parse datasets value_parameter
    computed_parameter selection_parameter point interval no_selection sized_mark mark written_channel datum_channel field_channel
    encoding layer_encoding view_kinds data_parts leaves numbers named lists plain_objects objects
top_dme dv mv ev = record { taken = refl; laid = refl }

pub top_dem : (dv mv ev : Json) → HasLayout TOP (d dv ∷ e ev ∷ m mv ∷ []) top_unit
unfolding vl_schema view_layouts source_layouts channel_layouts condition_layouts other_layouts layouts led_views
    joined_views other_views views led_layers other_layers all_layers all_sources all_parameters all_marks channels_of all_channels
    all_facets conditions_of cell_comparisons combinations other_filters all_filters plain_transforms all_transforms all_operations
    all_axes all_guides all_sizes unit_view layered_view faceted_view row_view column_view grid_view faceted_in_layer row_in_layer
    column_in_layer grid_in_layer spec_in_layer source_of_values source_of_file format parse datasets value_parameter
    computed_parameter selection_parameter point interval no_selection sized_mark mark written_channel datum_channel field_channel
    encoding layer_encoding view_kinds data_parts leaves numbers named lists plain_objects objects
top_dem dv mv ev = record { taken = refl; laid = refl }

pub top_mde : (dv mv ev : Json) → HasLayout TOP (m mv ∷ d dv ∷ e ev ∷ []) top_unit
unfolding vl_schema view_layouts source_layouts channel_layouts condition_layouts other_layouts layouts led_views
    joined_views other_views views led_layers other_layers all_layers all_sources all_parameters all_marks channels_of all_channels
    all_facets conditions_of cell_comparisons combinations other_filters all_filters plain_transforms all_transforms all_operations
    all_axes all_guides all_sizes unit_view layered_view faceted_view row_view column_view grid_view faceted_in_layer row_in_layer
    column_in_layer grid_in_layer spec_in_layer source_of_values source_of_file format parse datasets value_parameter
    computed_parameter selection_parameter point interval no_selection sized_mark mark written_channel datum_channel field_channel
    encoding layer_encoding view_kinds data_parts leaves numbers named lists plain_objects objects
top_mde dv mv ev = record { taken = refl; laid = refl }

pub top_med : (dv mv ev : Json) → HasLayout TOP (m mv ∷ e ev ∷ d dv ∷ []) top_unit
unfolding vl_schema view_layouts source_layouts channel_layouts condition_layouts other_layouts layouts led_views
    joined_views other_views views led_layers other_layers all_layers all_sources all_parameters all_marks channels_of all_channels
    all_facets conditions_of cell_comparisons combinations other_filters all_filters plain_transforms all_transforms all_operations
    all_axes all_guides all_sizes unit_view layered_view faceted_view row_view column_view grid_view faceted_in_layer row_in_layer
    column_in_layer grid_in_layer spec_in_layer source_of_values source_of_file format parse datasets value_parameter
    computed_parameter selection_parameter point interval no_selection sized_mark mark written_channel datum_channel field_channel
    encoding layer_encoding view_kinds data_parts leaves numbers named lists plain_objects objects
top_med dv mv ev = record { taken = refl; laid = refl }

pub top_edm : (dv mv ev : Json) → HasLayout TOP (e ev ∷ d dv ∷ m mv ∷ []) top_unit
unfolding vl_schema view_layouts source_layouts channel_layouts condition_layouts other_layouts layouts led_views
    joined_views other_views views led_layers other_layers all_layers all_sources all_parameters all_marks channels_of all_channels
    all_facets conditions_of cell_comparisons combinations other_filters all_filters plain_transforms all_transforms all_operations
    all_axes all_guides all_sizes unit_view layered_view faceted_view row_view column_view grid_view faceted_in_layer row_in_layer
    column_in_layer grid_in_layer spec_in_layer source_of_values source_of_file format parse datasets value_parameter
    computed_parameter selection_parameter point interval no_selection sized_mark mark written_channel datum_channel field_channel
    encoding layer_encoding view_kinds data_parts leaves numbers named lists plain_objects objects
top_edm dv mv ev = record { taken = refl; laid = refl }

pub top_emd : (dv mv ev : Json) → HasLayout TOP (e ev ∷ m mv ∷ d dv ∷ []) top_unit
unfolding vl_schema view_layouts source_layouts channel_layouts condition_layouts other_layouts layouts led_views
    joined_views other_views views led_layers other_layers all_layers all_sources all_parameters all_marks channels_of all_channels
    all_facets conditions_of cell_comparisons combinations other_filters all_filters plain_transforms all_transforms all_operations
    all_axes all_guides all_sizes unit_view layered_view faceted_view row_view column_view grid_view faceted_in_layer row_in_layer
    column_in_layer grid_in_layer spec_in_layer source_of_values source_of_file format parse datasets value_parameter
    computed_parameter selection_parameter point interval no_selection sized_mark mark written_channel datum_channel field_channel
    encoding layer_encoding view_kinds data_parts leaves numbers named lists plain_objects objects
top_emd dv mv ev = record { taken = refl; laid = refl }

pub data_nv : (n v : Json) → HasLayout DATA (member (codes "name") n ∷ member (codes "values") v ∷ []) source_of_values
unfolding vl_schema view_layouts source_layouts channel_layouts condition_layouts other_layouts layouts led_views
    joined_views other_views views led_layers other_layers all_layers all_sources all_parameters all_marks channels_of all_channels
    all_facets conditions_of cell_comparisons combinations other_filters all_filters plain_transforms all_transforms all_operations
    all_axes all_guides all_sizes unit_view layered_view faceted_view row_view column_view grid_view faceted_in_layer row_in_layer
    column_in_layer grid_in_layer spec_in_layer source_of_values source_of_file format parse datasets value_parameter
    computed_parameter selection_parameter point interval no_selection sized_mark mark written_channel datum_channel field_channel
    encoding layer_encoding view_kinds data_parts leaves numbers named lists plain_objects objects
data_nv n v = record { taken = refl; laid = refl }

pub data_vn : (n v : Json) → HasLayout DATA (member (codes "values") v ∷ member (codes "name") n ∷ []) source_of_values
unfolding vl_schema view_layouts source_layouts channel_layouts condition_layouts other_layouts layouts led_views
    joined_views other_views views led_layers other_layers all_layers all_sources all_parameters all_marks channels_of all_channels
    all_facets conditions_of cell_comparisons combinations other_filters all_filters plain_transforms all_transforms all_operations
    all_axes all_guides all_sizes unit_view layered_view faceted_view row_view column_view grid_view faceted_in_layer row_in_layer
    column_in_layer grid_in_layer spec_in_layer source_of_values source_of_file format parse datasets value_parameter
    computed_parameter selection_parameter point interval no_selection sized_mark mark written_channel datum_channel field_channel
    encoding layer_encoding view_kinds data_parts leaves numbers named lists plain_objects objects
data_vn n v = record { taken = refl; laid = refl }

pub encoding_laid : (members : List Member) → HasLayout ENCODING members encoding
unfolding vl_schema view_layouts source_layouts channel_layouts condition_layouts other_layouts layouts led_views
    joined_views other_views views led_layers other_layers all_layers all_sources all_parameters all_marks channels_of all_channels
    all_facets conditions_of cell_comparisons combinations other_filters all_filters plain_transforms all_transforms all_operations
    all_axes all_guides all_sizes unit_view layered_view faceted_view row_view column_view grid_view faceted_in_layer row_in_layer
    column_in_layer grid_in_layer spec_in_layer source_of_values source_of_file format parse datasets value_parameter
    computed_parameter selection_parameter point interval no_selection sized_mark mark written_channel datum_channel field_channel
    encoding layer_encoding view_kinds data_parts leaves numbers named lists plain_objects objects
encoding_laid members = record { taken = refl; laid = refl }

-- ---- shapes

pub data_shape : shape_in top_unit (codes "data") ≡ Some DATA
unfolding unit_view any_view top_only
data_shape = refl

pub mark_shape : shape_in top_unit (codes "mark") ≡ Some MARK
unfolding unit_view any_view top_only
mark_shape = refl

pub encoding_shape : shape_in top_unit (codes "encoding") ≡ Some ENCODING
unfolding unit_view any_view top_only
encoding_shape = refl

pub name_shape : shape_in source_of_values (codes "name") ≡ Some TEXT
unfolding source_of_values
name_shape = refl

pub values_shape : shape_in source_of_values (codes "values") ≡ Some FREE
unfolding source_of_values
values_shape = refl

pub x_shape : shape_in encoding (codes "x") ≡ Some X_CHANNEL
unfolding encoding
x_shape = refl

pub y_shape : shape_in encoding (codes "y") ≡ Some Y_CHANNEL
unfolding encoding
y_shape = refl
