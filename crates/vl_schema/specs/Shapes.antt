-- The forms of each shape.
use Rattle.std.specs.Prelude.{ℕ, pos, negsuc, List, [], ◌∷◌, ◌++◌}
use Rattle.spec_schema.specs.declared.form.Form.{Form}
use Rattle.spec_schema.specs.declared.form.Form.TheVariants as form
use Rattle.spec_schema.specs.declared.form.Shape.{Shape}
use Rattle.vl_spec.specs.Bounds.{least_number, most_number, over_zero, most_space, most_share, least_count, most_count, most_ticks, most_look}
use Rattle.vl_spec.specs.Bounds.{least_shift, most_shift, most_size, most_step}
use Rattle.vl_schema.specs.declared.codes.TheConstants.{ALIGN, ALIGN_NAMES, ANGLE, AUTOSIZE, AUTOSIZE_NAMES, AXIS, BASELINE, BASELINE_NAMES, BIN}
use Rattle.vl_schema.specs.declared.codes.TheConstants.{BIND, BIND_NAMES, BIN_STEP, BOUND, CELL, CHANNEL, CHANNEL_LIST, CHANNEL_NAME}
use Rattle.vl_schema.specs.declared.codes.TheConstants.{CHANNEL_NAMES, CLEAR, CLEAR_NAMES, CLICK_NAMES, CONDITION, CONDITIONS, CONFIG}
use Rattle.vl_schema.specs.declared.codes.TheConstants.{CONFIG_VIEW, COUNT, DATA, DATASETS, DETAIL, DRAG_NAMES, ENCODING, EVENT_NAMES, EXPRESSION}
use Rattle.vl_schema.specs.declared.codes.TheConstants.{FACET, FACET_CHANNEL, FIELD_TYPE, FILTER, FILTERS, FLAG, FORMAT, FORMAT_NAMES}
use Rattle.vl_schema.specs.declared.codes.TheConstants.{FORMAT_TYPE, FRAME, FREE, HEADER, INTERPOLATE, INTERPOLATE_NAMES, INTERVAL_EVENTS}
use Rattle.vl_schema.specs.declared.codes.TheConstants.{LABEL_FORMAT, LAYERS, LAYER_ENCODING, LAYER_VIEW, LEGEND, LOOK, LOOKUP_FROM, MARK}
use Rattle.vl_schema.specs.declared.codes.TheConstants.{MARK_NAMES, MARK_TYPE, NUMBER_OR_NULL, NUMBER_RANGE, OFFSET, OFFSET_NAMES, OPERATION}
use Rattle.vl_schema.specs.declared.codes.TheConstants.{OPERATIONS, OPERATION_NAMES, OPERATION_OF, ORDER, ORDER_NAMES, PARAMETER, PARAMETERS}
use Rattle.vl_schema.specs.declared.codes.TheConstants.{PARAMETER_NAME, PARSE, PARSE_KIND, PARSE_NAMES, PLAIN_SIZE, POINT_EVENTS, RANGE}
use Rattle.vl_schema.specs.declared.codes.TheConstants.{RANGE_ITEM, RESOLVE, RESOLVE_SCALE, SCALAR, SCALARS, SCALE, SCALE_DOMAIN, SCALE_NAMES}
use Rattle.vl_schema.specs.declared.codes.TheConstants.{SCALE_TYPE, SCHEME, SCHEME_NAMES, SELECT, SELECT_EVENTS, SELECT_NAMES, SELECT_TYPE, SHARE}
use Rattle.vl_schema.specs.declared.codes.TheConstants.{SHARING, SHARING_NAMES, SHIFT, SIDE, SIDE_NAMES, SIZE, SIZE_STEP, SORT, SORT_FIELD}
use Rattle.vl_schema.specs.declared.codes.TheConstants.{SORT_FIELDS, SORT_NAMES, SPACE, STACK, STEP, TEXT, TEXTS, TEXT_OR_TEXTS, TEXT_OR_TWO}
use Rattle.vl_schema.specs.declared.codes.TheConstants.{TICK_COUNT, TIME_UNIT, TITLE, TOGGLE, TOGGLE_NAMES, TOP, TRANSFORM, TRANSFORMS, TWO_TEXTS}
use Rattle.vl_schema.specs.declared.codes.TheConstants.{TYPE_NAMES, UNIT_NAMES, URL, VIEW, VIEWS, WHOLE, WINDOW_NAMES, WINDOW_OF, WINDOW_OPERATION}
use Rattle.vl_schema.specs.declared.codes.TheConstants.{WINDOW_OPERATIONS, X_AXIS, X_CHANNEL, X_CONDITION, X_CONDITIONS, X_SIDE, X_SIDE_NAMES}
use Rattle.vl_schema.specs.declared.codes.TheConstants.{Y_AXIS, Y_CHANNEL, Y_CONDITION, Y_CONDITIONS, Y_SIDE, Y_SIDE_NAMES}

-- a form of the shape of this code
abbrev pub shape : ℕ → Form → Shape
shape code form = record { code = code; form = form }

-- the greatest length of a list
abbrev pub MAX_LENGTH : ℕ
MAX_LENGTH = 18446744073709551615

-- values that hold no others
unfoldable pub leaves : List Shape
leaves =
    shape FREE form.Free ∷
    shape TEXT form.Text ∷
    shape EXPRESSION form.Text ∷
    shape LABEL_FORMAT form.Text ∷
    shape PARAMETER_NAME form.Text ∷
    shape URL form.Text ∷
    shape FLAG form.Flag ∷
    shape CELL form.Cell ∷
    shape SCALAR form.Null ∷
    shape SCALAR form.Flag ∷
    shape SCALAR (form.Number least_number most_number) ∷
    shape SCALAR form.Text ∷
    shape TITLE form.Text ∷
    shape TITLE form.Null ∷
    []

-- numbers, and what may be one
unfoldable pub numbers : List Shape
numbers =
    shape NUMBER_OR_NULL (form.Number least_number most_number) ∷
    shape NUMBER_OR_NULL form.Null ∷
    shape SPACE (form.Number (pos 0) most_space) ∷
    shape SHARE (form.Number (pos 0) most_share) ∷
    shape COUNT (form.Whole least_count most_count) ∷
    shape TICK_COUNT (form.Whole least_count most_ticks) ∷
    shape ANGLE (form.Number (pos 0) (pos 0)) ∷
    shape ANGLE (form.Number (negsuc 89999999) (negsuc 89999999)) ∷
    shape ANGLE (form.Number (pos 270000000) (pos 270000000)) ∷
    shape STEP (form.Number over_zero most_number) ∷
    shape SIZE_STEP (form.Number over_zero most_step) ∷
    shape PLAIN_SIZE (form.Number over_zero most_size) ∷
    shape SIZE (form.Number over_zero most_size) ∷
    shape SIZE (form.Object SIZE) ∷
    shape LOOK (form.Number (pos 0) most_look) ∷
    shape SHIFT (form.Number least_shift most_shift) ∷
    shape WHOLE (form.Whole (pos 0) most_number) ∷
    shape BOUND (form.Whole least_number most_number) ∷
    shape BOUND form.Null ∷
    shape RANGE_ITEM form.Null ∷
    shape RANGE_ITEM form.Flag ∷
    shape RANGE_ITEM (form.Number (pos 0) most_look) ∷
    shape RANGE_ITEM form.Text ∷
    []

-- values that are one of some names
unfoldable pub named : List Shape
named =
    shape AUTOSIZE (form.Name AUTOSIZE_NAMES) ∷
    shape FORMAT_TYPE (form.Name FORMAT_NAMES) ∷
    shape PARSE_KIND (form.Name PARSE_NAMES) ∷
    shape MARK_TYPE (form.Name MARK_NAMES) ∷
    shape ALIGN (form.Name ALIGN_NAMES) ∷
    shape BASELINE (form.Name BASELINE_NAMES) ∷
    shape INTERPOLATE (form.Name INTERPOLATE_NAMES) ∷
    shape BIND (form.Except BIND_NAMES) ∷
    shape SELECT_TYPE (form.Name SELECT_NAMES) ∷
    shape POINT_EVENTS (form.Name CLICK_NAMES) ∷
    shape INTERVAL_EVENTS (form.Name DRAG_NAMES) ∷
    shape SELECT_EVENTS (form.Name EVENT_NAMES) ∷
    shape CLEAR (form.Name CLEAR_NAMES) ∷
    shape CLEAR form.True ∷
    shape TOGGLE (form.Name TOGGLE_NAMES) ∷
    shape TOGGLE form.True ∷
    shape CHANNEL_NAME (form.Name CHANNEL_NAMES) ∷
    shape FIELD_TYPE (form.Name TYPE_NAMES) ∷
    shape OPERATION (form.Name OPERATION_NAMES) ∷
    shape WINDOW_OPERATION (form.Name WINDOW_NAMES) ∷
    shape TIME_UNIT (form.Name UNIT_NAMES) ∷
    shape SCALE_TYPE (form.Name SCALE_NAMES) ∷
    shape SCHEME (form.Name SCHEME_NAMES) ∷
    shape OFFSET (form.Name OFFSET_NAMES) ∷
    shape STACK (form.Name OFFSET_NAMES) ∷
    shape STACK form.Flag ∷
    shape STACK form.Null ∷
    shape ORDER (form.Name ORDER_NAMES) ∷
    shape SHARING (form.Name SHARING_NAMES) ∷
    shape X_SIDE (form.Name X_SIDE_NAMES) ∷
    shape Y_SIDE (form.Name Y_SIDE_NAMES) ∷
    shape SIDE (form.Name SIDE_NAMES) ∷
    []

-- lists, and what may be a list
unfoldable pub lists : List Shape
lists =
    shape TEXTS (form.List 0 MAX_LENGTH TEXT) ∷
    shape TWO_TEXTS (form.List 2 2 TEXT) ∷
    shape TEXT_OR_TWO form.Text ∷
    shape TEXT_OR_TWO (form.List 2 2 TEXT) ∷
    shape TEXT_OR_TEXTS form.Text ∷
    shape TEXT_OR_TEXTS (form.List 0 MAX_LENGTH TEXT) ∷
    shape SCALARS (form.List 0 MAX_LENGTH SCALAR) ∷
    shape NUMBER_RANGE (form.List 2 2 NUMBER_OR_NULL) ∷
    shape FRAME (form.List 2 2 BOUND) ∷
    shape RANGE (form.List 1 MAX_LENGTH RANGE_ITEM) ∷
    shape CHANNEL_LIST (form.List 0 MAX_LENGTH CHANNEL_NAME) ∷
    shape VIEWS (form.List 1 MAX_LENGTH VIEW) ∷
    shape LAYERS (form.List 1 MAX_LENGTH LAYER_VIEW) ∷
    shape TRANSFORMS (form.List 0 MAX_LENGTH TRANSFORM) ∷
    shape PARAMETERS (form.List 0 MAX_LENGTH PARAMETER) ∷
    shape FILTERS (form.List 0 MAX_LENGTH FILTER) ∷
    shape OPERATIONS (form.List 0 MAX_LENGTH OPERATION_OF) ∷
    shape WINDOW_OPERATIONS (form.List 0 MAX_LENGTH WINDOW_OF) ∷
    shape SORT_FIELDS (form.List 0 MAX_LENGTH SORT_FIELD) ∷
    shape X_CONDITIONS (form.Object X_CONDITION) ∷
    shape X_CONDITIONS (form.List 0 MAX_LENGTH X_CONDITION) ∷
    shape Y_CONDITIONS (form.Object Y_CONDITION) ∷
    shape Y_CONDITIONS (form.List 0 MAX_LENGTH Y_CONDITION) ∷
    shape CONDITIONS (form.Object CONDITION) ∷
    shape CONDITIONS (form.List 0 MAX_LENGTH CONDITION) ∷
    shape DETAIL (form.Object CHANNEL) ∷
    shape DETAIL (form.List 0 MAX_LENGTH CHANNEL) ∷
    []

-- values that are always objects
unfoldable pub plain_objects : List Shape
plain_objects =
    shape TOP (form.Object TOP) ∷
    shape VIEW (form.Object VIEW) ∷
    shape LAYER_VIEW (form.Object LAYER_VIEW) ∷
    shape DATA (form.Object DATA) ∷
    shape FORMAT (form.Object FORMAT) ∷
    shape PARSE (form.Object PARSE) ∷
    shape DATASETS (form.Object DATASETS) ∷
    shape CONFIG (form.Object CONFIG) ∷
    shape CONFIG_VIEW (form.Object CONFIG_VIEW) ∷
    shape RESOLVE (form.Object RESOLVE) ∷
    shape RESOLVE_SCALE (form.Object RESOLVE_SCALE) ∷
    shape PARAMETER (form.Object PARAMETER) ∷
    shape ENCODING (form.Object ENCODING) ∷
    shape LAYER_ENCODING (form.Object LAYER_ENCODING) ∷
    shape X_CHANNEL (form.Object X_CHANNEL) ∷
    shape Y_CHANNEL (form.Object Y_CHANNEL) ∷
    shape CHANNEL (form.Object CHANNEL) ∷
    shape FACET_CHANNEL (form.Object FACET_CHANNEL) ∷
    shape FACET (form.Object FACET) ∷
    shape X_CONDITION (form.Object X_CONDITION) ∷
    shape Y_CONDITION (form.Object Y_CONDITION) ∷
    shape CONDITION (form.Object CONDITION) ∷
    shape TRANSFORM (form.Object TRANSFORM) ∷
    shape OPERATION_OF (form.Object OPERATION_OF) ∷
    shape WINDOW_OF (form.Object WINDOW_OF) ∷
    shape SORT_FIELD (form.Object SORT_FIELD) ∷
    shape LOOKUP_FROM (form.Object LOOKUP_FROM) ∷
    shape SCALE (form.Object SCALE) ∷
    shape HEADER (form.Object HEADER) ∷
    []

-- values that may be objects
unfoldable pub objects : List Shape
objects =
    shape SELECT (form.Name SELECT_NAMES) ∷
    shape SELECT (form.Object SELECT) ∷
    shape MARK (form.Name MARK_NAMES) ∷
    shape MARK (form.Object MARK) ∷
    shape FILTER form.Text ∷
    shape FILTER (form.Object FILTER) ∷
    shape BIN form.Flag ∷
    shape BIN (form.Object BIN) ∷
    shape BIN_STEP form.True ∷
    shape BIN_STEP (form.Object BIN) ∷
    shape SCALE_DOMAIN (form.List 0 MAX_LENGTH SCALAR) ∷
    shape SCALE_DOMAIN (form.Object SCALE_DOMAIN) ∷
    shape X_AXIS form.Null ∷
    shape X_AXIS (form.Object X_AXIS) ∷
    shape Y_AXIS form.Null ∷
    shape Y_AXIS (form.Object Y_AXIS) ∷
    shape AXIS form.Null ∷
    shape AXIS (form.Object AXIS) ∷
    shape LEGEND form.Null ∷
    shape LEGEND (form.Object LEGEND) ∷
    shape SORT form.Null ∷
    shape SORT (form.Name SORT_NAMES) ∷
    shape SORT (form.List 0 MAX_LENGTH SCALAR) ∷
    shape SORT (form.Object SORT) ∷
    []

-- those of all shapes
abbrev pub shapes : List Shape
shapes = leaves ++ numbers ++ named ++ lists ++ plain_objects ++ objects
