-- The codes of shapes and of lists of names are names, and no rule rests on which numbers they are: each stands for one shape or one list.
use Rattle.std.specs.Prelude.{◌≡◌, ℕ, ◌==◌, Bool, true, ◌&&◌, not, Some, None, List, [], ◌∷◌, find, slice_get, refl}
use Rattle.std.specs.List.{list_any}
use Rattle.spec_schema.specs.declared.form.Shape.{Shape}
use Rattle.vega_schema.specs.declared.codes.TheConstants.{ANGLE, ANY_RANGE, AUTOSIZE, AUTOSIZE_NAMES, AXES, AXIS, BOUND, CELL, CELLS}
use Rattle.vega_schema.specs.declared.codes.TheConstants.{CHANNEL, CHANNELS, CONTINUOUS_NAMES, CONTINUOUS_RANGE, COUNT, CROSS, DATA}
use Rattle.vega_schema.specs.declared.codes.TheConstants.{DATA_LIST, DISCRETE_NAMES, DISCRETE_RANGE, DOMAIN, DOMAIN_ORDER, DOMAIN_SORT}
use Rattle.vega_schema.specs.declared.codes.TheConstants.{EDGE, EDGE_NAMES, ENCODE, EVENTS, EVENT_NAMES, EXPRESSION, EXPRESSION_SIGNAL}
use Rattle.vega_schema.specs.declared.codes.TheConstants.{EXTENT, EXTENT_SIGNAL, FACET, FLAG, FORMAT, FORMAT_NAMES, FORMAT_TYPE, FRAME}
use Rattle.vega_schema.specs.declared.codes.TheConstants.{FREE, GROUP_CHANNELS, GROUP_ENCODE, GROUP_FROM, HEADER, HEADERS, HEADER_NAMES}
use Rattle.vega_schema.specs.declared.codes.TheConstants.{LABEL_FORMAT, LAYOUT, LEGEND, LEGENDS, MARK, MARKS, MARK_FROM, NOTHING, NUMBER}
use Rattle.vega_schema.specs.declared.codes.TheConstants.{OFFSET, OFFSET_NAMES, ON, ONE_TEXT, ON_LIST, OPERATION, OPERATIONS}
use Rattle.vega_schema.specs.declared.codes.TheConstants.{OPERATION_NAMES, ORDER, ORDERS, ORDER_NAMES, ORDINAL_NAMES, ORDINAL_RANGE}
use Rattle.vega_schema.specs.declared.codes.TheConstants.{PARAMETER, PARAMETERS, PARSE, PARSE_KIND, PARSE_NAMES, RANGE_ITEM, RANGE_NAMES}
use Rattle.vega_schema.specs.declared.codes.TheConstants.{RANGE_NUMBER, REFERENCE, REFERENCES, SCALE, SCALES, SCALE_DOMAIN, SHARE, SIDE}
use Rattle.vega_schema.specs.declared.codes.TheConstants.{SIDE_NAMES, SIGNAL, SIGNALS, SIZE, SIZE_CHANNEL, SIZE_EXPRESSION, SIZE_SIGNAL}
use Rattle.vega_schema.specs.declared.codes.TheConstants.{SIZE_VALUE, SORT, SPACE, STEP, TEXT, TEXTS, TEXTS_OR_NULLS, TEXT_OR_NULL}
use Rattle.vega_schema.specs.declared.codes.TheConstants.{TEXT_OR_TEXTS, TICK_COUNT, TIME_UNIT, TOP, TRANSFORM, TRANSFORMS, TWO_TEXTS}
use Rattle.vega_schema.specs.declared.codes.TheConstants.{UNIT_NAMES, VALUE, WINDOW_NAMES, WINDOW_OPERATION, WINDOW_OPERATIONS}
use Rattle.vega_schema.specs.declared.codes.TheConstants.{WORDS_CHANNEL, WORDS_VALUE}
use Rattle.vega_schema.specs.Shapes.{leaves, named, lists, objects, shapes}
use Rattle.vega_schema.specs.Words.{words, autosize_names, format_names, parse_names, operation_names, window_names, unit_names}
use Rattle.vega_schema.specs.Words.{offset_names, order_names, continuous_names, discrete_names, ordinal_names, event_names, header_names}
use Rattle.vega_schema.specs.Words.{side_names, edge_names, range_names}

-- no number stands twice
abbrev pub are_distinct : List ℕ → Bool
are_distinct [] = true
are_distinct (n ∷ numbers) = not (list_any (λ m. m == n) numbers) && are_distinct numbers

-- the codes of all shapes
abbrev pub shape_codes : List ℕ
shape_codes =
    NOTHING ∷ FREE ∷ TEXT ∷ EXPRESSION ∷ LABEL_FORMAT ∷ FLAG ∷ CELL ∷ NUMBER ∷ SPACE ∷ SHARE ∷ COUNT ∷ TICK_COUNT ∷
    ANGLE ∷ STEP ∷ PARAMETER ∷ BOUND ∷ RANGE_NUMBER ∷ SIZE ∷ AUTOSIZE ∷ FORMAT_TYPE ∷ PARSE_KIND ∷ OPERATION ∷
    WINDOW_OPERATION ∷ TIME_UNIT ∷ OFFSET ∷ ORDER ∷ EVENTS ∷ HEADER ∷ SIDE ∷ EDGE ∷ CONTINUOUS_RANGE ∷ DISCRETE_RANGE ∷
    ORDINAL_RANGE ∷ RANGE_ITEM ∷ CELLS ∷ TEXTS ∷ ONE_TEXT ∷ TWO_TEXTS ∷ TEXT_OR_TEXTS ∷ TEXT_OR_NULL ∷ TEXTS_OR_NULLS ∷
    OPERATIONS ∷ WINDOW_OPERATIONS ∷ PARAMETERS ∷ FRAME ∷ ORDERS ∷ EXTENT ∷ DOMAIN_ORDER ∷ SCALE_DOMAIN ∷ CHANNEL ∷
    WORDS_CHANNEL ∷ DATA_LIST ∷ TRANSFORMS ∷ SIGNALS ∷ ON_LIST ∷ SCALES ∷ REFERENCES ∷ MARKS ∷ HEADERS ∷ AXES ∷
    LEGENDS ∷ TOP ∷ DATA ∷ FORMAT ∷ PARSE ∷ TRANSFORM ∷ SORT ∷ EXTENT_SIGNAL ∷ SIGNAL ∷ ON ∷ SCALE ∷ DOMAIN ∷
    REFERENCE ∷ DOMAIN_SORT ∷ EXPRESSION_SIGNAL ∷ MARK ∷ MARK_FROM ∷ GROUP_FROM ∷ FACET ∷ CROSS ∷ ENCODE ∷ CHANNELS ∷
    VALUE ∷ WORDS_VALUE ∷ AXIS ∷ LEGEND ∷ LAYOUT ∷ SIZE_EXPRESSION ∷ SIZE_SIGNAL ∷ GROUP_ENCODE ∷ GROUP_CHANNELS ∷
    SIZE_CHANNEL ∷ SIZE_VALUE ∷ ANY_RANGE ∷ []

no_two_shapes_are_one : are_distinct shape_codes ≡ true
no_two_shapes_are_one = refl

no_value_is_nothing : find (λ (s : Shape). s.code == NOTHING) shapes ≡ None
unfolding leaves named lists objects
no_value_is_nothing = refl

-- each list of names stands under its code

the_autosize_names : slice_get words AUTOSIZE_NAMES ≡ Some autosize_names
the_autosize_names = refl

the_format_names : slice_get words FORMAT_NAMES ≡ Some format_names
the_format_names = refl

the_parse_names : slice_get words PARSE_NAMES ≡ Some parse_names
the_parse_names = refl

the_operation_names : slice_get words OPERATION_NAMES ≡ Some operation_names
the_operation_names = refl

the_window_names : slice_get words WINDOW_NAMES ≡ Some window_names
the_window_names = refl

the_unit_names : slice_get words UNIT_NAMES ≡ Some unit_names
the_unit_names = refl

the_offset_names : slice_get words OFFSET_NAMES ≡ Some offset_names
the_offset_names = refl

the_order_names : slice_get words ORDER_NAMES ≡ Some order_names
the_order_names = refl

the_continuous_names : slice_get words CONTINUOUS_NAMES ≡ Some continuous_names
the_continuous_names = refl

the_discrete_names : slice_get words DISCRETE_NAMES ≡ Some discrete_names
the_discrete_names = refl

the_ordinal_names : slice_get words ORDINAL_NAMES ≡ Some ordinal_names
the_ordinal_names = refl

the_event_names : slice_get words EVENT_NAMES ≡ Some event_names
the_event_names = refl

the_header_names : slice_get words HEADER_NAMES ≡ Some header_names
the_header_names = refl

the_side_names : slice_get words SIDE_NAMES ≡ Some side_names
the_side_names = refl

the_edge_names : slice_get words EDGE_NAMES ≡ Some edge_names
the_edge_names = refl

the_range_names : slice_get words RANGE_NAMES ≡ Some range_names
the_range_names = refl
