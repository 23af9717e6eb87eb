-- The forms of each shape.
use Rattle.std.specs.Prelude.{ℕ, ℤ, pos, negsuc, neg_ℤ, List, [], ◌∷◌, ◌++◌}
use Rattle.fixed_num.specs.Number.{limit}
use Rattle.spec_schema.specs.declared.form.Form.{Form}
use Rattle.spec_schema.specs.declared.form.Form.TheVariants as form
use Rattle.spec_schema.specs.declared.form.Shape.{Shape}
use Rattle.vega_schema.specs.declared.codes.TheConstants.{ANGLE, ANY_RANGE, AUTOSIZE, AUTOSIZE_NAMES, AXES, AXIS, BOUND, CELL, CELLS}
use Rattle.vega_schema.specs.declared.codes.TheConstants.{CHANNEL, CHANNELS, CONTINUOUS_NAMES, CONTINUOUS_RANGE, COUNT, CROSS, DATA}
use Rattle.vega_schema.specs.declared.codes.TheConstants.{DATA_LIST, DISCRETE_NAMES, DISCRETE_RANGE, DOMAIN, DOMAIN_ORDER, DOMAIN_SORT}
use Rattle.vega_schema.specs.declared.codes.TheConstants.{EDGE, EDGE_NAMES, ENCODE, EVENTS, EVENT_NAMES, EXPRESSION, EXPRESSION_SIGNAL}
use Rattle.vega_schema.specs.declared.codes.TheConstants.{EXTENT, EXTENT_SIGNAL, FACET, FLAG, FORMAT, FORMAT_NAMES, FORMAT_TYPE, FRAME}
use Rattle.vega_schema.specs.declared.codes.TheConstants.{FREE, GROUP_CHANNELS, GROUP_ENCODE, GROUP_FROM, HEADER, HEADERS, HEADER_NAMES}
use Rattle.vega_schema.specs.declared.codes.TheConstants.{LABEL_FORMAT, LAYOUT, LEGEND, LEGENDS, MARK, MARKS, MARK_FROM, NUMBER, OFFSET}
use Rattle.vega_schema.specs.declared.codes.TheConstants.{OFFSET_NAMES, ON, ONE_TEXT, ON_LIST, OPERATION, OPERATIONS, OPERATION_NAMES}
use Rattle.vega_schema.specs.declared.codes.TheConstants.{ORDER, ORDERS, ORDER_NAMES, ORDINAL_NAMES, ORDINAL_RANGE, PARAMETER, PARAMETERS}
use Rattle.vega_schema.specs.declared.codes.TheConstants.{PARSE, PARSE_KIND, PARSE_NAMES, RANGE_ITEM, RANGE_NAMES, RANGE_NUMBER, REFERENCE}
use Rattle.vega_schema.specs.declared.codes.TheConstants.{REFERENCES, SCALE, SCALES, SCALE_DOMAIN, SHARE, SIDE, SIDE_NAMES, SIGNAL, SIGNALS}
use Rattle.vega_schema.specs.declared.codes.TheConstants.{SIZE, SIZE_CHANNEL, SIZE_EXPRESSION, SIZE_SIGNAL, SIZE_VALUE, SORT, SPACE, STEP}
use Rattle.vega_schema.specs.declared.codes.TheConstants.{TEXT, TEXTS, TEXTS_OR_NULLS, TEXT_OR_NULL, TEXT_OR_TEXTS, TICK_COUNT, TIME_UNIT}
use Rattle.vega_schema.specs.declared.codes.TheConstants.{TOP, TRANSFORM, TRANSFORMS, TWO_TEXTS, UNIT_NAMES, VALUE, WINDOW_NAMES}
use Rattle.vega_schema.specs.declared.codes.TheConstants.{WINDOW_OPERATION, WINDOW_OPERATIONS, WORDS_CHANNEL, WORDS_VALUE}

-- a form of the shape of this code
abbrev pub shape : ℕ → Form → Shape
shape code form = record { code = code; form = form }

-- the greatest length of a list
abbrev pub MAX_LENGTH : ℕ
MAX_LENGTH = 18446744073709551615

-- the least and the greatest number in range
abbrev pub least_number : ℤ
least_number = neg_ℤ (pos limit)

abbrev pub most_number : ℤ
most_number = pos limit

-- values that hold no others
unfoldable pub leaves : List Shape
leaves =
    shape FREE form.Free ∷
    shape TEXT form.Text ∷
    shape EXPRESSION form.Text ∷
    shape SIZE_EXPRESSION form.Text ∷
    shape LABEL_FORMAT form.Text ∷
    shape FLAG form.Flag ∷
    shape CELL form.Cell ∷
    shape NUMBER (form.Number least_number most_number) ∷
    shape SPACE (form.Number (pos 0) (pos 1000000000)) ∷
    shape SHARE (form.Number (pos 0) (pos 1000000)) ∷
    shape COUNT (form.Whole (pos 1000000) (pos 1000000000)) ∷
    shape TICK_COUNT (form.Whole (pos 1000000) (pos 100000000)) ∷
    shape ANGLE (form.Number (pos 0) (pos 0)) ∷
    shape ANGLE (form.Number (negsuc 89999999) (negsuc 89999999)) ∷
    shape ANGLE (form.Number (pos 270000000) (pos 270000000)) ∷
    shape STEP (form.Number (pos 1) most_number) ∷
    shape PARAMETER (form.Whole (pos 0) most_number) ∷
    shape PARAMETER form.Null ∷
    shape BOUND (form.Whole least_number most_number) ∷
    shape BOUND form.Null ∷
    shape RANGE_NUMBER (form.Number (pos 0) (pos 1000000000000)) ∷
    shape SIZE (form.Number (pos 1) (pos 10000000000)) ∷
    shape SIZE (form.Object SIZE_SIGNAL) ∷
    []

-- values that are one of some names, and ranges
unfoldable pub named : List Shape
named =
    shape AUTOSIZE (form.Name AUTOSIZE_NAMES) ∷
    shape FORMAT_TYPE (form.Name FORMAT_NAMES) ∷
    shape PARSE_KIND (form.Name PARSE_NAMES) ∷
    shape OPERATION (form.Name OPERATION_NAMES) ∷
    shape WINDOW_OPERATION (form.Name WINDOW_NAMES) ∷
    shape TIME_UNIT (form.Name UNIT_NAMES) ∷
    shape OFFSET (form.Name OFFSET_NAMES) ∷
    shape ORDER (form.Name ORDER_NAMES) ∷
    shape EVENTS (form.Name EVENT_NAMES) ∷
    shape HEADER (form.Name HEADER_NAMES) ∷
    shape HEADER form.Null ∷
    shape SIDE (form.Name SIDE_NAMES) ∷
    shape EDGE (form.Name EDGE_NAMES) ∷
    shape CONTINUOUS_RANGE (form.Pair RANGE_NUMBER) ∷
    shape CONTINUOUS_RANGE (form.Name CONTINUOUS_NAMES) ∷
    shape DISCRETE_RANGE (form.Pair RANGE_NUMBER) ∷
    shape DISCRETE_RANGE (form.Name DISCRETE_NAMES) ∷
    shape ORDINAL_RANGE (form.List 1 MAX_LENGTH RANGE_ITEM) ∷
    shape ORDINAL_RANGE (form.Name ORDINAL_NAMES) ∷
    shape ANY_RANGE (form.List 1 MAX_LENGTH RANGE_ITEM) ∷
    shape ANY_RANGE (form.Name RANGE_NAMES) ∷
    shape RANGE_ITEM form.Null ∷
    shape RANGE_ITEM form.Flag ∷
    shape RANGE_ITEM (form.Number (pos 0) (pos 1000000000000)) ∷
    shape RANGE_ITEM form.Text ∷
    shape RANGE_ITEM (form.Pair NUMBER) ∷
    []

-- lists, and what may be a list
unfoldable pub lists : List Shape
lists =
    shape CELLS (form.List 0 MAX_LENGTH CELL) ∷
    shape TEXTS (form.List 0 MAX_LENGTH TEXT) ∷
    shape ONE_TEXT (form.List 1 1 TEXT) ∷
    shape TWO_TEXTS (form.List 2 2 TEXT) ∷
    shape TEXT_OR_TEXTS form.Text ∷
    shape TEXT_OR_TEXTS (form.List 0 MAX_LENGTH TEXT) ∷
    shape TEXT_OR_NULL form.Text ∷
    shape TEXT_OR_NULL form.Null ∷
    shape TEXTS_OR_NULLS (form.List 0 MAX_LENGTH TEXT_OR_NULL) ∷
    shape OPERATIONS (form.List 0 MAX_LENGTH OPERATION) ∷
    shape WINDOW_OPERATIONS (form.List 0 MAX_LENGTH WINDOW_OPERATION) ∷
    shape PARAMETERS (form.List 0 MAX_LENGTH PARAMETER) ∷
    shape FRAME (form.List 2 2 BOUND) ∷
    shape ORDERS (form.Name ORDER_NAMES) ∷
    shape ORDERS (form.List 0 MAX_LENGTH ORDER) ∷
    shape EXTENT (form.Pair NUMBER) ∷
    shape EXTENT (form.Object EXTENT_SIGNAL) ∷
    shape DOMAIN_ORDER form.True ∷
    shape DOMAIN_ORDER (form.Object DOMAIN_SORT) ∷
    shape SCALE_DOMAIN (form.List 0 MAX_LENGTH CELL) ∷
    shape SCALE_DOMAIN (form.Object DOMAIN) ∷
    shape CHANNEL (form.Object VALUE) ∷
    shape CHANNEL (form.List 0 MAX_LENGTH VALUE) ∷
    shape WORDS_CHANNEL (form.Object WORDS_VALUE) ∷
    shape WORDS_CHANNEL (form.List 0 MAX_LENGTH WORDS_VALUE) ∷
    shape SIZE_CHANNEL (form.Object SIZE_VALUE) ∷
    shape SIZE_CHANNEL (form.List 0 MAX_LENGTH SIZE_VALUE) ∷
    shape DATA_LIST (form.List 0 MAX_LENGTH DATA) ∷
    shape TRANSFORMS (form.List 0 MAX_LENGTH TRANSFORM) ∷
    shape SIGNALS (form.List 0 MAX_LENGTH SIGNAL) ∷
    shape ON_LIST (form.List 0 MAX_LENGTH ON) ∷
    shape SCALES (form.List 0 MAX_LENGTH SCALE) ∷
    shape REFERENCES (form.List 0 MAX_LENGTH REFERENCE) ∷
    shape MARKS (form.List 0 MAX_LENGTH MARK) ∷
    shape HEADERS (form.List 0 MAX_LENGTH HEADER) ∷
    shape AXES (form.List 0 MAX_LENGTH AXIS) ∷
    shape LEGENDS (form.List 0 MAX_LENGTH LEGEND) ∷
    []

-- objects
unfoldable pub objects : List Shape
objects =
    shape TOP (form.Object TOP) ∷
    shape DATA (form.Object DATA) ∷
    shape FORMAT (form.Object FORMAT) ∷
    shape PARSE (form.Object PARSE) ∷
    shape TRANSFORM (form.Object TRANSFORM) ∷
    shape SORT (form.Object SORT) ∷
    shape EXTENT_SIGNAL (form.Object EXTENT_SIGNAL) ∷
    shape SIGNAL (form.Object SIGNAL) ∷
    shape ON (form.Object ON) ∷
    shape SCALE (form.Object SCALE) ∷
    shape DOMAIN (form.Object DOMAIN) ∷
    shape REFERENCE (form.Object REFERENCE) ∷
    shape DOMAIN_SORT (form.Object DOMAIN_SORT) ∷
    shape EXPRESSION_SIGNAL (form.Object EXPRESSION_SIGNAL) ∷
    shape MARK (form.Object MARK) ∷
    shape MARK_FROM (form.Object MARK_FROM) ∷
    shape GROUP_FROM (form.Object GROUP_FROM) ∷
    shape FACET (form.Object FACET) ∷
    shape CROSS (form.Object CROSS) ∷
    shape ENCODE (form.Object ENCODE) ∷
    shape CHANNELS (form.Object CHANNELS) ∷
    shape VALUE (form.Object VALUE) ∷
    shape WORDS_VALUE (form.Object WORDS_VALUE) ∷
    shape AXIS (form.Object AXIS) ∷
    shape LEGEND (form.Object LEGEND) ∷
    shape LAYOUT (form.Object LAYOUT) ∷
    shape SIZE_SIGNAL (form.Object SIZE_SIGNAL) ∷
    shape GROUP_ENCODE (form.Object GROUP_ENCODE) ∷
    shape GROUP_CHANNELS (form.Object GROUP_CHANNELS) ∷
    shape SIZE_VALUE (form.Object SIZE_VALUE) ∷
    []

-- those of all shapes
abbrev pub shapes : List Shape
shapes = leaves ++ named ++ lists ++ objects
