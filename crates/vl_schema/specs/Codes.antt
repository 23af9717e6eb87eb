-- The codes of shapes and of lists of names are names, and no rule rests on which numbers they are: each stands for one shape or one list.
use Rattle.std.specs.Prelude.{◌≡◌, ℕ, ◌==◌, Bool, true, ◌&&◌, not, Some, None, List, [], ◌∷◌, find, slice_get, refl}
use Rattle.std.specs.List.{list_any}
use Rattle.spec_schema.specs.declared.form.Shape.{Shape}
use Rattle.vl_schema.specs.declared.codes.TheConstants.{NOTHING, FREE, TEXT, EXPRESSION, LABEL_FORMAT, PARAMETER_NAME, FLAG, CELL, SCALAR, TITLE}
use Rattle.vl_schema.specs.declared.codes.TheConstants.{NUMBER_OR_NULL, SPACE, SHARE, COUNT, TICK_COUNT, ANGLE, STEP, SIZE_STEP, PLAIN_SIZE, SIZE}
use Rattle.vl_schema.specs.declared.codes.TheConstants.{LOOK, SHIFT, WHOLE, BOUND, RANGE_ITEM, AUTOSIZE, FORMAT_TYPE, PARSE_KIND, ALIGN, BASELINE}
use Rattle.vl_schema.specs.declared.codes.TheConstants.{INTERPOLATE, BIND, MARK_TYPE, SELECT_TYPE, POINT_EVENTS, INTERVAL_EVENTS, SELECT_EVENTS}
use Rattle.vl_schema.specs.declared.codes.TheConstants.{CLEAR, TOGGLE, CHANNEL_NAME, FIELD_TYPE, OPERATION, WINDOW_OPERATION, TIME_UNIT}
use Rattle.vl_schema.specs.declared.codes.TheConstants.{SCALE_TYPE, SCHEME, OFFSET, STACK, ORDER, SHARING, X_SIDE, Y_SIDE, SIDE, TEXTS, TWO_TEXTS}
use Rattle.vl_schema.specs.declared.codes.TheConstants.{TEXT_OR_TWO, TEXT_OR_TEXTS, SCALARS, NUMBER_RANGE, FRAME, RANGE, CHANNEL_LIST, VIEWS}
use Rattle.vl_schema.specs.declared.codes.TheConstants.{LAYERS, TRANSFORMS, PARAMETERS, FILTERS, OPERATIONS, WINDOW_OPERATIONS, SORT_FIELDS}
use Rattle.vl_schema.specs.declared.codes.TheConstants.{X_CONDITIONS, Y_CONDITIONS, CONDITIONS, DETAIL, TOP, VIEW, LAYER_VIEW, DATA, FORMAT}
use Rattle.vl_schema.specs.declared.codes.TheConstants.{PARSE, DATASETS, CONFIG, CONFIG_VIEW, RESOLVE, RESOLVE_SCALE, PARAMETER, SELECT, MARK}
use Rattle.vl_schema.specs.declared.codes.TheConstants.{ENCODING, LAYER_ENCODING, X_CHANNEL, Y_CHANNEL, CHANNEL, FACET_CHANNEL, FACET}
use Rattle.vl_schema.specs.declared.codes.TheConstants.{X_CONDITION, Y_CONDITION, CONDITION, FILTER, TRANSFORM, BIN, BIN_STEP, OPERATION_OF}
use Rattle.vl_schema.specs.declared.codes.TheConstants.{WINDOW_OF, SORT_FIELD, LOOKUP_FROM, SCALE, SCALE_DOMAIN, X_AXIS, Y_AXIS, AXIS, LEGEND}
use Rattle.vl_schema.specs.declared.codes.TheConstants.{HEADER, SORT, AUTOSIZE_NAMES, FORMAT_NAMES, PARSE_NAMES, MARK_NAMES, ALIGN_NAMES}
use Rattle.vl_schema.specs.declared.codes.TheConstants.{BASELINE_NAMES, INTERPOLATE_NAMES, BIND_NAMES, SELECT_NAMES, CLICK_NAMES, DRAG_NAMES}
use Rattle.vl_schema.specs.declared.codes.TheConstants.{EVENT_NAMES, CLEAR_NAMES, TOGGLE_NAMES, CHANNEL_NAMES, TYPE_NAMES, OPERATION_NAMES}
use Rattle.vl_schema.specs.declared.codes.TheConstants.{WINDOW_NAMES, UNIT_NAMES, SCALE_NAMES, SCHEME_NAMES, OFFSET_NAMES, ORDER_NAMES}
use Rattle.vl_schema.specs.declared.codes.TheConstants.{SORT_NAMES, SHARING_NAMES, X_SIDE_NAMES, Y_SIDE_NAMES, SIDE_NAMES, VIEW_KINDS}
use Rattle.vl_schema.specs.declared.codes.TheConstants.{CHANNEL_KINDS, TRANSFORM_KINDS, TRANSFORM_OTHERS, PARAMETER_KINDS, TEST_KINDS}
use Rattle.vl_schema.specs.declared.codes.TheConstants.{FIELD_NAMES, CONDITION_ALONE, FACET_NAMES, COMPARISONS, FILTER_KINDS, FILTER_NAMES}
use Rattle.vl_schema.specs.declared.codes.TheConstants.{DATA_NAMES, URL}
use Rattle.vl_schema.specs.Shapes.{leaves, numbers, named, lists, plain_objects, objects, shapes}
use Rattle.vl_schema.specs.Words.{words, autosize_names, format_names, parse_names, mark_names, align_names, baseline_names, interpolate_names}
use Rattle.vl_schema.specs.Words.{bind_names, select_names, click_names, drag_names, event_names, clear_names, toggle_names, channel_names}
use Rattle.vl_schema.specs.Words.{type_names, operation_names, window_names, unit_names, scale_names, scheme_names, offset_names, order_names}
use Rattle.vl_schema.specs.Words.{sort_names, sharing_names, x_side_names, y_side_names, side_names, view_kinds, channel_kinds, transform_kinds}
use Rattle.vl_schema.specs.Words.{transform_others, parameter_kinds, test_kinds, field_names, condition_alone, facet_parts, comparisons}
use Rattle.vl_schema.specs.Words.{filter_kinds, filter_parts, data_parts}

-- no number stands twice
abbrev pub are_distinct : List ℕ → Bool
are_distinct [] = true
are_distinct (n ∷ numbers) = not (list_any (λ m. m == n) numbers) && are_distinct numbers

-- the codes of all shapes
abbrev pub shape_codes : List ℕ
shape_codes =
    NOTHING ∷ FREE ∷ TEXT ∷ EXPRESSION ∷ LABEL_FORMAT ∷ PARAMETER_NAME ∷ FLAG ∷ CELL ∷ SCALAR ∷ TITLE ∷
    NUMBER_OR_NULL ∷ SPACE ∷ SHARE ∷ COUNT ∷ TICK_COUNT ∷ ANGLE ∷ STEP ∷ SIZE_STEP ∷ PLAIN_SIZE ∷ SIZE ∷ LOOK ∷
    SHIFT ∷ WHOLE ∷ BOUND ∷ RANGE_ITEM ∷ AUTOSIZE ∷ FORMAT_TYPE ∷ PARSE_KIND ∷ ALIGN ∷ BASELINE ∷ INTERPOLATE ∷
    BIND ∷ MARK_TYPE ∷ SELECT_TYPE ∷ POINT_EVENTS ∷ INTERVAL_EVENTS ∷ SELECT_EVENTS ∷ CLEAR ∷ TOGGLE ∷ CHANNEL_NAME ∷
    FIELD_TYPE ∷ OPERATION ∷ WINDOW_OPERATION ∷ TIME_UNIT ∷ SCALE_TYPE ∷ SCHEME ∷ OFFSET ∷ STACK ∷ ORDER ∷ SHARING ∷
    X_SIDE ∷ Y_SIDE ∷ SIDE ∷ TEXTS ∷ TWO_TEXTS ∷ TEXT_OR_TWO ∷ TEXT_OR_TEXTS ∷ SCALARS ∷ NUMBER_RANGE ∷ FRAME ∷
    RANGE ∷ CHANNEL_LIST ∷ VIEWS ∷ LAYERS ∷ TRANSFORMS ∷ PARAMETERS ∷ FILTERS ∷ OPERATIONS ∷ WINDOW_OPERATIONS ∷
    SORT_FIELDS ∷ X_CONDITIONS ∷ Y_CONDITIONS ∷ CONDITIONS ∷ DETAIL ∷ TOP ∷ VIEW ∷ LAYER_VIEW ∷ DATA ∷ FORMAT ∷
    PARSE ∷ DATASETS ∷ CONFIG ∷ CONFIG_VIEW ∷ RESOLVE ∷ RESOLVE_SCALE ∷ PARAMETER ∷ SELECT ∷ MARK ∷ ENCODING ∷
    LAYER_ENCODING ∷ X_CHANNEL ∷ Y_CHANNEL ∷ CHANNEL ∷ FACET_CHANNEL ∷ FACET ∷ X_CONDITION ∷ Y_CONDITION ∷
    CONDITION ∷ FILTER ∷ TRANSFORM ∷ BIN ∷ BIN_STEP ∷ OPERATION_OF ∷ WINDOW_OF ∷ SORT_FIELD ∷ LOOKUP_FROM ∷ SCALE ∷
    SCALE_DOMAIN ∷ X_AXIS ∷ Y_AXIS ∷ AXIS ∷ LEGEND ∷ HEADER ∷ SORT ∷ URL ∷
    []

no_two_shapes_are_one : are_distinct shape_codes ≡ true
no_two_shapes_are_one = refl

no_value_is_nothing : find (λ (s : Shape). s.code == NOTHING) shapes ≡ None
unfolding leaves numbers named lists plain_objects objects
no_value_is_nothing = refl

-- each list of names stands under its code

the_autosize_names : slice_get words AUTOSIZE_NAMES ≡ Some autosize_names
the_autosize_names = refl

the_format_names : slice_get words FORMAT_NAMES ≡ Some format_names
the_format_names = refl

the_parse_names : slice_get words PARSE_NAMES ≡ Some parse_names
the_parse_names = refl

the_mark_names : slice_get words MARK_NAMES ≡ Some mark_names
the_mark_names = refl

the_align_names : slice_get words ALIGN_NAMES ≡ Some align_names
the_align_names = refl

the_baseline_names : slice_get words BASELINE_NAMES ≡ Some baseline_names
the_baseline_names = refl

the_interpolate_names : slice_get words INTERPOLATE_NAMES ≡ Some interpolate_names
the_interpolate_names = refl

the_bind_names : slice_get words BIND_NAMES ≡ Some bind_names
the_bind_names = refl

the_select_names : slice_get words SELECT_NAMES ≡ Some select_names
the_select_names = refl

the_click_names : slice_get words CLICK_NAMES ≡ Some click_names
the_click_names = refl

the_drag_names : slice_get words DRAG_NAMES ≡ Some drag_names
the_drag_names = refl

the_event_names : slice_get words EVENT_NAMES ≡ Some event_names
the_event_names = refl

the_clear_names : slice_get words CLEAR_NAMES ≡ Some clear_names
the_clear_names = refl

the_toggle_names : slice_get words TOGGLE_NAMES ≡ Some toggle_names
the_toggle_names = refl

the_channel_names : slice_get words CHANNEL_NAMES ≡ Some channel_names
the_channel_names = refl

the_type_names : slice_get words TYPE_NAMES ≡ Some type_names
the_type_names = refl

the_operation_names : slice_get words OPERATION_NAMES ≡ Some operation_names
the_operation_names = refl

the_window_names : slice_get words WINDOW_NAMES ≡ Some window_names
the_window_names = refl

the_unit_names : slice_get words UNIT_NAMES ≡ Some unit_names
the_unit_names = refl

the_scale_names : slice_get words SCALE_NAMES ≡ Some scale_names
the_scale_names = refl

the_scheme_names : slice_get words SCHEME_NAMES ≡ Some scheme_names
the_scheme_names = refl

the_offset_names : slice_get words OFFSET_NAMES ≡ Some offset_names
the_offset_names = refl

the_order_names : slice_get words ORDER_NAMES ≡ Some order_names
the_order_names = refl

the_sort_names : slice_get words SORT_NAMES ≡ Some sort_names
the_sort_names = refl

the_sharing_names : slice_get words SHARING_NAMES ≡ Some sharing_names
the_sharing_names = refl

the_x_side_names : slice_get words X_SIDE_NAMES ≡ Some x_side_names
the_x_side_names = refl

the_y_side_names : slice_get words Y_SIDE_NAMES ≡ Some y_side_names
the_y_side_names = refl

the_side_names : slice_get words SIDE_NAMES ≡ Some side_names
the_side_names = refl

the_view_kinds : slice_get words VIEW_KINDS ≡ Some view_kinds
the_view_kinds = refl

the_channel_kinds : slice_get words CHANNEL_KINDS ≡ Some channel_kinds
the_channel_kinds = refl

the_transform_kinds : slice_get words TRANSFORM_KINDS ≡ Some transform_kinds
the_transform_kinds = refl

the_transform_others : slice_get words TRANSFORM_OTHERS ≡ Some transform_others
the_transform_others = refl

the_parameter_kinds : slice_get words PARAMETER_KINDS ≡ Some parameter_kinds
the_parameter_kinds = refl

the_test_kinds : slice_get words TEST_KINDS ≡ Some test_kinds
the_test_kinds = refl

the_field_names : slice_get words FIELD_NAMES ≡ Some field_names
the_field_names = refl

the_condition_alone : slice_get words CONDITION_ALONE ≡ Some condition_alone
the_condition_alone = refl

the_facet_parts : slice_get words FACET_NAMES ≡ Some facet_parts
the_facet_parts = refl

the_comparisons : slice_get words COMPARISONS ≡ Some comparisons
the_comparisons = refl

the_filter_kinds : slice_get words FILTER_KINDS ≡ Some filter_kinds
the_filter_kinds = refl

the_filter_parts : slice_get words FILTER_NAMES ≡ Some filter_parts
the_filter_parts = refl

the_data_parts : slice_get words DATA_NAMES ≡ Some data_parts
the_data_parts = refl
