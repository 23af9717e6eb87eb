-- The readers of single values keep exactly what the table of members takes.
use Rattle.std.specs.Prelude.{◌≡◌, ℕ, ℤ, pos, Bool, true, Option, List, length, nat_le}
use Rattle.std.specs.Option.{option_and_then, is_some}
use Rattle.json_exact.specs.declared.json.Json.TheOpen as level
use Rattle.json_exact.specs.Inside.{text_in, number_in, items_in}
use Rattle.fixed_num.specs.Ranges.{is_within}
use Rattle.spec_schema.specs.Forms.{taken_form}
use Rattle.vl_schema.specs.Schema.{vl_schema}
use Rattle.vl_schema.specs.declared.codes.TheConstants.{TEXT, FLAG, CELL, SCALAR, TITLE, NUMBER_OR_NULL, SPACE, SHARE, COUNT, TICK_COUNT, ANGLE, STEP}
use Rattle.vl_schema.specs.declared.codes.TheConstants.{SIZE_STEP}
use Rattle.vl_schema.specs.declared.codes.TheConstants.{PLAIN_SIZE, LOOK, SHIFT, WHOLE, BOUND, RANGE_ITEM, AUTOSIZE, FORMAT_TYPE, PARSE_KIND, ALIGN, BASELINE}
use Rattle.vl_schema.specs.declared.codes.TheConstants.{INTERPOLATE, MARK_TYPE, SELECT_TYPE, POINT_EVENTS, INTERVAL_EVENTS, CLEAR, TOGGLE, CHANNEL_NAME}
use Rattle.vl_schema.specs.declared.codes.TheConstants.{FIELD_TYPE, OPERATION, WINDOW_OPERATION, TIME_UNIT, SCALE_TYPE, SCHEME, OFFSET, STACK, ORDER, SHARING}
use Rattle.vl_schema.specs.declared.codes.TheConstants.{SIDE, TWO_TEXTS, TEXT_OR_TWO}
use Rattle.vl_schema.specs.declared.codes.TheConstants.{TEXT_OR_TEXTS, BIN, SORT, SCALE_DOMAIN, X_AXIS, Y_AXIS, AXIS, LEGEND, SELECT, MARK}
use Rattle.vl_schema.specs.Shapes.{MAX_LENGTH}
use Rattle.vl_spec.specs.Bounds.{least_number, most_number, over_zero, most_space, most_share, least_count, most_count, most_ticks, most_look, least_shift}
use Rattle.vl_spec.specs.Bounds.{most_shift, most_size, most_step}
use Rattle.vl_spec.specs.declared.params.SelectType.TheVariants as selection
use Rattle.tree_readers.specs.Parts.{Opened, flag_in, cell_in, two_texts}
use Rattle.vl_building.specs.Numbers.{between, whole_between, angle}
use Rattle.vl_building.specs.Names.{order_named, offset_named, format_kind_named, parse_kind_named, mark_type_named, align_named, baseline_named}
use Rattle.vl_building.specs.Names.{interpolate_named, select_type_named, select_event_named, field_type_named, scheme_named, sharing_named, side_named}
use Rattle.vl_building.specs.Names.{autosize_named}
use Rattle.vl_building.specs.Names.{operation_named, window_operation_named, time_unit_named, scale_kind_named, channel_named}
use Rattle.vl_building.specs.Values.{scalar_in, title_in, names_in, texts_in, nullable_in}
use Rattle.vl_building.specs.Filters.{bound_in}
use Rattle.vl_building.specs.Definitions.{stacking_in, bin_in, sort_in}
use Rattle.vl_building.specs.Guides.{ranged_in, domain_in, axis_of, legend_of}
use Rattle.vl_building.specs.Marks.{clear_in, toggle_in, mark_in, select_in}
use Rattle.vl_building.specs.Transforms.{frame_end}

-- a number is one in range, and a list has a length of 64 bits, as all that stand in memory
abbrev pub stands : Opened → Bool
stands (level.Number n) = is_within least_number most_number n
stands (level.List items) = nat_le (length items) MAX_LENGTH
stands other = true

-- a reader gives something exactly where a value has a form of a shape
abbrev pub Keeps : {A : Type 0} → ℕ → (Opened → Option A) → Type 0
Keeps shape reading = (tree : Opened) → stands tree ≡ true → is_some (reading tree) ≡ is_some (taken_form vl_schema shape tree)

-- what a text names
abbrev pub text_as : {A : Type 0} → (List ℕ → Option A) → Opened → Option A
text_as named tree = option_and_then named (text_in tree)

-- a number within bounds
abbrev pub number_as : (ℤ → Option ℤ) → Opened → Option ℤ
number_as bounded tree = option_and_then bounded (number_in tree)

-- values without bounds
pub record ValuesAreKept : Type 0 where
  pub text : Keeps TEXT text_in
  pub flag : Keeps FLAG flag_in
  pub cell : Keeps CELL cell_in
  pub scalar : Keeps SCALAR scalar_in
  pub title : Keeps TITLE title_in
  pub bound : Keeps NUMBER_OR_NULL bound_in
  pub frame_end : Keeps BOUND (λ tree. option_and_then frame_end (bound_in tree))
  pub stack : Keeps STACK stacking_in
  pub clear : Keeps CLEAR clear_in
  pub toggle : Keeps TOGGLE toggle_in
  pub two_texts : Keeps TWO_TEXTS (λ tree. option_and_then two_texts (items_in tree))
  pub one_or_two : Keeps TEXT_OR_TWO names_in

-- numbers
pub record NumbersAreKept : Type 0 where
  pub space : Keeps SPACE (number_as (between (pos 0) most_space))
  pub share : Keeps SHARE (number_as (between (pos 0) most_share))
  pub count : Keeps COUNT (number_as (whole_between least_count most_count))
  pub tick_count : Keeps TICK_COUNT (number_as (whole_between least_count most_ticks))
  pub angle : Keeps ANGLE (number_as angle)
  pub step : Keeps STEP (number_as (between over_zero most_number))
  pub size_step : Keeps SIZE_STEP (number_as (between over_zero most_step))
  pub plain_size : Keeps PLAIN_SIZE (number_as (between over_zero most_size))
  pub look : Keeps LOOK (number_as (between (pos 0) most_look))
  pub shift : Keeps SHIFT (number_as (between least_shift most_shift))
  pub whole : Keeps WHOLE (number_as (whole_between (pos 0) most_number))
  pub range_item : Keeps RANGE_ITEM ranged_in

-- names
pub record NamesAreKept : Type 0 where
  pub autosize : Keeps AUTOSIZE (text_as autosize_named)
  pub format_kind : Keeps FORMAT_TYPE (text_as format_kind_named)
  pub parse_kind : Keeps PARSE_KIND (text_as parse_kind_named)
  pub mark_type : Keeps MARK_TYPE (text_as mark_type_named)
  pub align : Keeps ALIGN (text_as align_named)
  pub baseline : Keeps BASELINE (text_as baseline_named)
  pub interpolate : Keeps INTERPOLATE (text_as interpolate_named)
  pub select_type : Keeps SELECT_TYPE (text_as select_type_named)
  pub point_event : Keeps POINT_EVENTS (text_as (select_event_named selection.Point))
  pub interval_event : Keeps INTERVAL_EVENTS (text_as (select_event_named selection.Interval))
  pub field_type : Keeps FIELD_TYPE (text_as field_type_named)
  pub scheme : Keeps SCHEME (text_as scheme_named)
  pub offset : Keeps OFFSET (text_as offset_named)
  pub order : Keeps ORDER (text_as order_named)
  pub sharing : Keeps SHARING (text_as sharing_named)
  pub side : Keeps SIDE (text_as side_named)

-- names of tables of codes
pub record CodesAreKept : Type 0 where
  pub channel : Keeps CHANNEL_NAME (text_as channel_named)
  pub operation : Keeps OPERATION (text_as operation_named)
  pub window_operation : Keeps WINDOW_OPERATION (text_as window_operation_named)
  pub time_unit : Keeps TIME_UNIT (text_as time_unit_named)
  pub scale_kind : Keeps SCALE_TYPE (text_as scale_kind_named)

-- values that may be objects, and lists of any length
pub record ObjectsAreKept : Type 0 where
  pub texts : Keeps TEXT_OR_TEXTS texts_in
  pub bin : Keeps BIN bin_in
  pub sort : Keeps SORT sort_in
  pub domain : Keeps SCALE_DOMAIN domain_in
  pub x_axis : Keeps X_AXIS (nullable_in axis_of)
  pub y_axis : Keeps Y_AXIS (nullable_in axis_of)
  pub axis : Keeps AXIS (nullable_in axis_of)
  pub legend : Keeps LEGEND (nullable_in legend_of)
  pub select : Keeps SELECT select_in
  pub mark : Keeps MARK mark_in
