-- The readers of values that may be objects keep what the table takes: there is a layout for every object of these kinds.
use Rattle.std.proofs.Common.{◌≡◌, ℕ, ◌==◌, Bool, true, false, ◌&&◌, ◌||◌, List, [], ◌∷◌, length, get_or, refl, sym, ap, ◌∙◌, arith}
use Rattle.std.specs.Prelude.{Option, Some, None, find, map, codes, nat_le, if◌then◌else◌}
use Rattle.std.specs.Option.{is_some}
use Rattle.std.specs.List.{list_any, list_all}
use Rattle.std.proofs.lemmas.Bool.Decides.{nat_tests}
use Rattle.json_exact.specs.declared.json.Json.TheOpen as level
use Rattle.json_exact.specs.declared.json.Member.{Member}
use Rattle.spec_schema.specs.declared.form.Shape.{Shape}
use Rattle.spec_schema.specs.declared.form.Form.TheVariants as form
use Rattle.spec_schema.specs.declared.layout.Layout.{Layout}
use Rattle.spec_schema.specs.declared.layout.Test.{Test}
use Rattle.spec_schema.specs.Values.{Opened, among}
use Rattle.spec_schema.specs.Layouts.{holds, applies, layout_in}
use Rattle.vl_schema.specs.declared.codes.TheConstants.{TEXT, SCALAR, TEXT_OR_TEXTS, BIN, SORT, SCALE_DOMAIN, X_AXIS, Y_AXIS, AXIS, LEGEND, SELECT, MARK}
use Rattle.vl_schema.specs.declared.codes.TheConstants.{SORT_NAMES, SELECT_NAMES, MARK_NAMES}
use Rattle.vl_schema.specs.Shapes.{MAX_LENGTH, shape, leaves, numbers, named, lists, plain_objects, objects}
use Rattle.vl_schema.specs.Words.{sort_names, select_names, mark_names}
use Rattle.vl_schema.specs.Schema.{vl_schema, view_layouts, source_layouts, channel_layouts, condition_layouts, other_layouts, layouts}
use Rattle.vl_schema.specs.Views.{unit_view, layered_view, faceted_view, row_view, column_view, grid_view, led_views, joined_views, other_views}
use Rattle.vl_schema.specs.Views.{views}
use Rattle.vl_schema.specs.Layers.{faceted_in_layer, row_in_layer, column_in_layer, grid_in_layer, spec_in_layer, led_layers, other_layers}
use Rattle.vl_schema.specs.Layers.{all_layers}
use Rattle.vl_schema.specs.Sources.{source_of_values, source_of_file, format, parse, datasets, all_sources}
use Rattle.vl_schema.specs.Parameters.{value_parameter, computed_parameter, selection_parameter, point, interval, no_selection, all_parameters}
use Rattle.vl_schema.specs.Marks.{sized_mark, mark, all_marks}
use Rattle.vl_schema.specs.Channels.{written_channel, datum_channel, field_channel, encoding, layer_encoding, channels_of, all_channels}
use Rattle.vl_schema.specs.Facets.{facet_by_parts, facet_definition, facet_with_condition, all_facets}
use Rattle.vl_schema.specs.Conditions.{value_by_selection, field_by_selection, value_by_filter, field_by_filter, conditions_of}
use Rattle.vl_schema.specs.Filters.{filter_by_selection, comparison, combination, cell_comparisons, combinations, other_filters, all_filters}
use Rattle.vl_schema.specs.Transforms.{filter, calculate, bin, time_unit, aggregate, join_aggregate, stack, window, lookup, fold, no_transform}
use Rattle.vl_schema.specs.Transforms.{plain_transforms, all_transforms}
use Rattle.vl_schema.specs.Operations.{operation, window_operation, sort_field, lookup_from, bins, all_operations}
use Rattle.vl_schema.specs.Guides.{scale, selected_domain, axis_along, legend, header, sort_by_count, sort_by_field, all_axes, all_guides}
use Rattle.vl_schema.specs.Sizes.{step, config, config_view, resolve, resolve_scale, all_sizes}
use Rattle.vl_building.specs.Values.{texts_in, nullable_in}
use Rattle.vl_building.specs.Definitions.{sort_named, bin_in, sort_in}
use Rattle.vl_building.specs.Guides.{domain_in, axis_of, legend_of}
use Rattle.vl_building.specs.Names.{select_type_named, mark_type_named}
use Rattle.vl_building.specs.Marks.{mark_in, select_in}
use Rattle.vl_building.specs.Taken.{stands, Keeps, ObjectsAreKept}
use Rattle.vl_building.proofs.TakenLemmas.{form_fits, keeps_by, mapped, alone, next, name_taken}
use Rattle.vl_building.proofs.TakenNames.{select_type_among, mark_type_among}

-- ---- layouts without tests

abbrev asks_nothing : List Test → Bool
asks_nothing [] = true
asks_nothing (t ∷ tests) = false

abbrev stands_for : ℕ → Layout → Bool
stands_for object layout = layout.object == object && asks_nothing layout.when

chosen : (b : Bool) (x : Layout) (o : Option Layout) → is_some o ≡ true → is_some (if b then Some x else o) ≡ true
chosen true x o is = refl
chosen false x o is = is

one_more : (members : List Member) (x : Layout) (o : Option Layout) (r : Bool) (same : Bool) (tests : List Test) → (r ≡ true → is_some o ≡ true) →
    ((same && asks_nothing tests) || r) ≡ true → is_some (if same && list_all (holds vl_schema members) tests then Some x else o) ≡ true
one_more members x o r true [] later is = refl
one_more members x o r true (t ∷ tests) later is = chosen (list_all (holds vl_schema members) (t ∷ tests)) x o (later is)
one_more members x o r false tests later is = later is

among_them : (object : ℕ) (members : List Member) (xs : List Layout) → list_any (stands_for object) xs ≡ true →
    is_some (find (applies vl_schema object members) xs) ≡ true
among_them object members [] is = is
among_them object members (x ∷ xs) is =
    one_more members x _ (list_any (stands_for object) xs) (x.object == object) x.when (among_them object members xs) is

its_layouts : vl_schema.layouts ≡ layouts
unfolding vl_schema
its_layouts = refl

-- each of these objects has a layout, whatever its members
all_stand :
    map (λ object. list_any (stands_for object) layouts) (BIN ∷ SORT ∷ SCALE_DOMAIN ∷ X_AXIS ∷ Y_AXIS ∷ AXIS ∷ LEGEND ∷ SELECT ∷ MARK ∷ [])
    ≡ true ∷ true ∷ true ∷ true ∷ true ∷ true ∷ true ∷ true ∷ true ∷ []
unfolding vl_schema view_layouts source_layouts channel_layouts condition_layouts other_layouts layouts led_views joined_views other_views views
    led_layers other_layers all_layers all_sources all_parameters all_marks channels_of all_channels all_facets conditions_of cell_comparisons
    combinations other_filters all_filters plain_transforms all_transforms all_operations all_axes all_guides all_sizes unit_view layered_view
    faceted_view row_view column_view grid_view faceted_in_layer row_in_layer column_in_layer grid_in_layer spec_in_layer source_of_values
    source_of_file format parse datasets value_parameter computed_parameter selection_parameter point interval no_selection sized_mark mark
    written_channel datum_channel field_channel encoding layer_encoding facet_by_parts facet_definition facet_with_condition value_by_selection
    field_by_selection value_by_filter field_by_filter filter_by_selection comparison combination filter calculate bin time_unit aggregate
    join_aggregate stack window lookup fold no_transform operation window_operation sort_field lookup_from bins scale selected_domain axis_along
    legend header sort_by_count sort_by_field step config config_view resolve resolve_scale
all_stand = refl

has_layout : (object : ℕ) → list_any (stands_for object) layouts ≡ true → (members : List Member) → true ≡ is_some (layout_in vl_schema object members)
has_layout object is members = sym (among_them object members vl_schema.layouts (ap (list_any (stands_for object)) its_layouts ∙ is))

has_one : (object : ℕ) → list_any (stands_for object) layouts ≡ true → (members : List Member) (x : Shape) →
    true ≡ is_some (if is_some (layout_in vl_schema object members) then Some x else None)
has_one object is members x = has_layout object is members ∙ alone (is_some (layout_in vl_schema object members)) x

-- ---- lists of any length

from_zero : (n : ℕ) → nat_le 0 n ≡ true
from_zero n = grind (arith, nat_tests)

any_length : (n : ℕ) (x : Shape) (o : Option Shape) → nat_le n MAX_LENGTH ≡ true → true ≡ is_some (if nat_le 0 n && nat_le n MAX_LENGTH then Some x else o)
any_length n x o is = ap (λ b. is_some (if b then Some x else o)) (sym (ap (λ b. b && nat_le n MAX_LENGTH) (from_zero n) ∙ is))

abbrev texts_forms : List Shape
texts_forms = shape TEXT_OR_TEXTS form.Text ∷ shape TEXT_OR_TEXTS (form.List 0 MAX_LENGTH TEXT) ∷ []

texts_each : (tree : Opened) → stands tree ≡ true → is_some (texts_in tree) ≡ is_some (find (form_fits tree) texts_forms)
texts_each level.Null here = refl
texts_each (level.Flag b) here = refl
texts_each (level.Number n) here = refl
texts_each level.Huge here = refl
texts_each (level.Text t) here = refl
texts_each (level.List items) here = any_length (length items) _ _ here
texts_each (level.Object members) here = refl

texts_kept : Keeps TEXT_OR_TEXTS texts_in
unfolding leaves numbers named lists plain_objects objects
texts_kept = keeps_by TEXT_OR_TEXTS _ texts_forms refl texts_each

abbrev bin_forms : List Shape
bin_forms = shape BIN form.Flag ∷ shape BIN (form.Object BIN) ∷ []

bin_each : (tree : Opened) → stands tree ≡ true → is_some (bin_in tree) ≡ is_some (find (form_fits tree) bin_forms)
bin_each level.Null here = refl
bin_each (level.Flag b) here = refl
bin_each (level.Number n) here = refl
bin_each level.Huge here = refl
bin_each (level.Text t) here = refl
bin_each (level.List items) here = refl
bin_each (level.Object members) here = has_one BIN (ap (λ bs. get_or bs 0 false) all_stand) members _

bin_kept : Keeps BIN bin_in
unfolding leaves numbers named lists plain_objects objects
bin_kept = keeps_by BIN _ bin_forms refl bin_each

sort_among : (name : List ℕ) → is_some (sort_named name) ≡ among sort_names name
unfolding sort_names sort_named
sort_among name =
    next (codes "ascending") name _ _ _ (next (codes "descending") name _ _ _ (next (codes "x") name _ _ _ (next (codes "-x") name _ _ _
    (next (codes "y") name _ _ _ (next (codes "-y") name _ _ _ refl)))))

abbrev sort_forms : List Shape
sort_forms = shape SORT form.Null ∷ shape SORT (form.Name SORT_NAMES) ∷ shape SORT (form.List 0 MAX_LENGTH SCALAR) ∷ shape SORT (form.Object SORT) ∷ []

sort_each : (tree : Opened) → stands tree ≡ true → is_some (sort_in tree) ≡ is_some (find (form_fits tree) sort_forms)
sort_each level.Null here = refl
sort_each (level.Flag b) here = refl
sort_each (level.Number n) here = refl
sort_each level.Huge here = refl
sort_each (level.Text t) here = name_taken SORT_NAMES sort_names t _ _ refl (sort_among t)
sort_each (level.List items) here = any_length (length items) _ _ here
sort_each (level.Object members) here = has_one SORT (ap (λ bs. get_or bs 1 false) all_stand) members _

sort_kept : Keeps SORT sort_in
unfolding leaves numbers named lists plain_objects objects
sort_kept = keeps_by SORT _ sort_forms refl sort_each

abbrev domain_forms : List Shape
domain_forms = shape SCALE_DOMAIN (form.List 0 MAX_LENGTH SCALAR) ∷ shape SCALE_DOMAIN (form.Object SCALE_DOMAIN) ∷ []

domain_each : (tree : Opened) → stands tree ≡ true → is_some (domain_in tree) ≡ is_some (find (form_fits tree) domain_forms)
domain_each level.Null here = refl
domain_each (level.Flag b) here = refl
domain_each (level.Number n) here = refl
domain_each level.Huge here = refl
domain_each (level.Text t) here = refl
domain_each (level.List items) here = any_length (length items) _ _ here
domain_each (level.Object members) here = has_one SCALE_DOMAIN (ap (λ bs. get_or bs 2 false) all_stand) members _

domain_kept : Keeps SCALE_DOMAIN domain_in
unfolding leaves numbers named lists plain_objects objects
domain_kept = keeps_by SCALE_DOMAIN _ domain_forms refl domain_each

abbrev x_axis_forms : List Shape
x_axis_forms = shape X_AXIS form.Null ∷ shape X_AXIS (form.Object X_AXIS) ∷ []

x_axis_each : (tree : Opened) → stands tree ≡ true → is_some (nullable_in axis_of tree) ≡ is_some (find (form_fits tree) x_axis_forms)
x_axis_each level.Null here = refl
x_axis_each (level.Flag b) here = refl
x_axis_each (level.Number n) here = refl
x_axis_each level.Huge here = refl
x_axis_each (level.Text t) here = refl
x_axis_each (level.List items) here = refl
x_axis_each (level.Object members) here = has_one X_AXIS (ap (λ bs. get_or bs 3 false) all_stand) members _

x_axis_kept : Keeps X_AXIS (nullable_in axis_of)
unfolding leaves numbers named lists plain_objects objects
x_axis_kept = keeps_by X_AXIS _ x_axis_forms refl x_axis_each

abbrev y_axis_forms : List Shape
y_axis_forms = shape Y_AXIS form.Null ∷ shape Y_AXIS (form.Object Y_AXIS) ∷ []

y_axis_each : (tree : Opened) → stands tree ≡ true → is_some (nullable_in axis_of tree) ≡ is_some (find (form_fits tree) y_axis_forms)
y_axis_each level.Null here = refl
y_axis_each (level.Flag b) here = refl
y_axis_each (level.Number n) here = refl
y_axis_each level.Huge here = refl
y_axis_each (level.Text t) here = refl
y_axis_each (level.List items) here = refl
y_axis_each (level.Object members) here = has_one Y_AXIS (ap (λ bs. get_or bs 4 false) all_stand) members _

y_axis_kept : Keeps Y_AXIS (nullable_in axis_of)
unfolding leaves numbers named lists plain_objects objects
y_axis_kept = keeps_by Y_AXIS _ y_axis_forms refl y_axis_each

abbrev axis_forms : List Shape
axis_forms = shape AXIS form.Null ∷ shape AXIS (form.Object AXIS) ∷ []

axis_each : (tree : Opened) → stands tree ≡ true → is_some (nullable_in axis_of tree) ≡ is_some (find (form_fits tree) axis_forms)
axis_each level.Null here = refl
axis_each (level.Flag b) here = refl
axis_each (level.Number n) here = refl
axis_each level.Huge here = refl
axis_each (level.Text t) here = refl
axis_each (level.List items) here = refl
axis_each (level.Object members) here = has_one AXIS (ap (λ bs. get_or bs 5 false) all_stand) members _

axis_kept : Keeps AXIS (nullable_in axis_of)
unfolding leaves numbers named lists plain_objects objects
axis_kept = keeps_by AXIS _ axis_forms refl axis_each

abbrev legend_forms : List Shape
legend_forms = shape LEGEND form.Null ∷ shape LEGEND (form.Object LEGEND) ∷ []

legend_each : (tree : Opened) → stands tree ≡ true → is_some (nullable_in legend_of tree) ≡ is_some (find (form_fits tree) legend_forms)
legend_each level.Null here = refl
legend_each (level.Flag b) here = refl
legend_each (level.Number n) here = refl
legend_each level.Huge here = refl
legend_each (level.Text t) here = refl
legend_each (level.List items) here = refl
legend_each (level.Object members) here = has_one LEGEND (ap (λ bs. get_or bs 6 false) all_stand) members _

legend_kept : Keeps LEGEND (nullable_in legend_of)
unfolding leaves numbers named lists plain_objects objects
legend_kept = keeps_by LEGEND _ legend_forms refl legend_each

abbrev select_forms : List Shape
select_forms = shape SELECT (form.Name SELECT_NAMES) ∷ shape SELECT (form.Object SELECT) ∷ []

select_each : (tree : Opened) → stands tree ≡ true → is_some (select_in tree) ≡ is_some (find (form_fits tree) select_forms)
select_each level.Null here = refl
select_each (level.Flag b) here = refl
select_each (level.Number n) here = refl
select_each level.Huge here = refl
select_each (level.Text t) here = mapped _ (select_type_named t) ∙ name_taken SELECT_NAMES select_names t _ _ refl (select_type_among t)
select_each (level.List items) here = refl
select_each (level.Object members) here = has_one SELECT (ap (λ bs. get_or bs 7 false) all_stand) members _

select_kept : Keeps SELECT select_in
unfolding leaves numbers named lists plain_objects objects
select_kept = keeps_by SELECT _ select_forms refl select_each

abbrev mark_forms : List Shape
mark_forms = shape MARK (form.Name MARK_NAMES) ∷ shape MARK (form.Object MARK) ∷ []

mark_each : (tree : Opened) → stands tree ≡ true → is_some (mark_in tree) ≡ is_some (find (form_fits tree) mark_forms)
mark_each level.Null here = refl
mark_each (level.Flag b) here = refl
mark_each (level.Number n) here = refl
mark_each level.Huge here = refl
mark_each (level.Text t) here = mapped _ (mark_type_named t) ∙ name_taken MARK_NAMES mark_names t _ _ refl (mark_type_among t)
mark_each (level.List items) here = refl
mark_each (level.Object members) here = has_one MARK (ap (λ bs. get_or bs 8 false) all_stand) members _

mark_kept : Keeps MARK mark_in
unfolding leaves numbers named lists plain_objects objects
mark_kept = keeps_by MARK _ mark_forms refl mark_each

pub objects_kept : ObjectsAreKept
objects_kept = record {
  texts = texts_kept;
  bin = bin_kept;
  sort = sort_kept;
  domain = domain_kept;
  x_axis = x_axis_kept;
  y_axis = y_axis_kept;
  axis = axis_kept;
  legend = legend_kept;
  select = select_kept;
  mark = mark_kept;
}
