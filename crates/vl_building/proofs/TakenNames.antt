-- The readers of names keep what the table takes.
use Rattle.std.proofs.Common.{◌≡◌, ℕ, List, [], ◌∷◌, refl}
use Rattle.std.specs.Prelude.{codes}
use Rattle.std.specs.Str.{bytes_eq}
use Rattle.std.specs.Option.{is_some}
use Rattle.spec_schema.specs.Values.{among}
use Rattle.vl_spec.specs.declared.params.SelectType.TheVariants as selection
use Rattle.vl_schema.specs.declared.codes.TheConstants.{AUTOSIZE, FORMAT_TYPE, PARSE_KIND, MARK_TYPE, ALIGN, BASELINE, INTERPOLATE, SELECT_TYPE, POINT_EVENTS}
use Rattle.vl_schema.specs.declared.codes.TheConstants.{INTERVAL_EVENTS}
use Rattle.vl_schema.specs.declared.codes.TheConstants.{FIELD_TYPE, SCHEME, OFFSET, ORDER, SHARING, SIDE, CHANNEL_NAME, WINDOW_OPERATION, TIME_UNIT, OPERATION}
use Rattle.vl_schema.specs.declared.codes.TheConstants.{SCALE_TYPE, ALIGN_NAMES, AUTOSIZE_NAMES, BASELINE_NAMES, CLICK_NAMES, DRAG_NAMES, FORMAT_NAMES}
use Rattle.vl_schema.specs.declared.codes.TheConstants.{INTERPOLATE_NAMES, MARK_NAMES, OFFSET_NAMES}
use Rattle.vl_schema.specs.declared.codes.TheConstants.{ORDER_NAMES, PARSE_NAMES, SCHEME_NAMES, SELECT_NAMES, SHARING_NAMES, SIDE_NAMES, TYPE_NAMES}
use Rattle.vl_schema.specs.declared.codes.TheConstants.{CHANNEL_NAMES, WINDOW_NAMES, UNIT_NAMES}
use Rattle.vl_schema.specs.declared.codes.TheConstants.{OPERATION_NAMES, SCALE_NAMES}
use Rattle.vl_schema.specs.Shapes.{leaves, numbers, named, lists, plain_objects, objects}
use Rattle.vl_schema.specs.Words.{autosize_names, format_names, parse_names, mark_names, align_names, baseline_names, interpolate_names, select_names}
use Rattle.vl_schema.specs.Words.{click_names}
use Rattle.vl_schema.specs.Words.{drag_names, type_names, scheme_names, offset_names, order_names, sharing_names, side_names, channel_names, window_names}
use Rattle.vl_schema.specs.Words.{unit_names, operation_names, scale_names}
use Rattle.vl_building.specs.Names.{align_named, autosize_named, baseline_named, field_type_named, format_kind_named, interpolate_named, mark_type_named}
use Rattle.vl_building.specs.Names.{offset_named, order_named}
use Rattle.vl_building.specs.Names.{parse_kind_named, scheme_named, select_event_named, select_type_named, sharing_named, side_named, channel_named}
use Rattle.vl_building.specs.Names.{window_operation_named, time_unit_named}
use Rattle.vl_building.specs.Names.{aggregates, scale_types, operation_named, scale_kind_named}
use Rattle.vl_building.specs.Taken.{Keeps, text_as, NamesAreKept, CodesAreKept}
use Rattle.vl_building.proofs.TakenLemmas.{name_keeps, next, position_keeps, below_keeps}

pub autosize_among : (name : List ℕ) → is_some (autosize_named name) ≡ among autosize_names name
unfolding autosize_names autosize_named
autosize_among name = next (codes "pad") name _ _ _ refl

autosize_kept : Keeps AUTOSIZE (text_as autosize_named)
unfolding leaves numbers named lists plain_objects objects autosize_names
autosize_kept = name_keeps AUTOSIZE AUTOSIZE_NAMES autosize_named autosize_names refl refl autosize_among

pub format_kind_among : (name : List ℕ) → is_some (format_kind_named name) ≡ among format_names name
unfolding format_names format_kind_named
format_kind_among name = next (codes "json") name _ _ _ (next (codes "csv") name _ _ _ refl)

format_kind_kept : Keeps FORMAT_TYPE (text_as format_kind_named)
unfolding leaves numbers named lists plain_objects objects format_names
format_kind_kept = name_keeps FORMAT_TYPE FORMAT_NAMES format_kind_named format_names refl refl format_kind_among

pub parse_kind_among : (name : List ℕ) → is_some (parse_kind_named name) ≡ among parse_names name
unfolding parse_names parse_kind_named
parse_kind_among name =
    next (codes "number") name _ _ _ (next (codes "boolean") name _ _ _ (next (codes "string") name _ _ _
    (next (codes "date") name _ _ _ refl)))

parse_kind_kept : Keeps PARSE_KIND (text_as parse_kind_named)
unfolding leaves numbers named lists plain_objects objects parse_names
parse_kind_kept = name_keeps PARSE_KIND PARSE_NAMES parse_kind_named parse_names refl refl parse_kind_among

pub mark_type_among : (name : List ℕ) → is_some (mark_type_named name) ≡ among mark_names name
unfolding mark_names mark_type_named
mark_type_among name =
    next (codes "bar") name _ _ _ (next (codes "rect") name _ _ _ (next (codes "point") name _ _ _ (next (codes "circle") name _ _ _
    (next (codes "square") name _ _ _ (next (codes "line") name _ _ _ (next (codes "area") name _ _ _ (next (codes "tick") name _ _ _
    (next (codes "rule") name _ _ _ (next (codes "text") name _ _ _ refl)))))))))

mark_type_kept : Keeps MARK_TYPE (text_as mark_type_named)
unfolding leaves numbers named lists plain_objects objects mark_names
mark_type_kept = name_keeps MARK_TYPE MARK_NAMES mark_type_named mark_names refl refl mark_type_among

pub align_among : (name : List ℕ) → is_some (align_named name) ≡ among align_names name
unfolding align_names align_named
align_among name = next (codes "left") name _ _ _ (next (codes "center") name _ _ _ (next (codes "right") name _ _ _ refl))

align_kept : Keeps ALIGN (text_as align_named)
unfolding leaves numbers named lists plain_objects objects align_names
align_kept = name_keeps ALIGN ALIGN_NAMES align_named align_names refl refl align_among

pub baseline_among : (name : List ℕ) → is_some (baseline_named name) ≡ among baseline_names name
unfolding baseline_names baseline_named
baseline_among name =
    next (codes "top") name _ _ _ (next (codes "middle") name _ _ _ (next (codes "bottom") name _ _ _
    (next (codes "alphabetic") name _ _ _ refl)))

baseline_kept : Keeps BASELINE (text_as baseline_named)
unfolding leaves numbers named lists plain_objects objects baseline_names
baseline_kept = name_keeps BASELINE BASELINE_NAMES baseline_named baseline_names refl refl baseline_among

pub interpolate_among : (name : List ℕ) → is_some (interpolate_named name) ≡ among interpolate_names name
unfolding interpolate_names interpolate_named
interpolate_among name = next (codes "linear") name _ _ _ refl

interpolate_kept : Keeps INTERPOLATE (text_as interpolate_named)
unfolding leaves numbers named lists plain_objects objects interpolate_names
interpolate_kept = name_keeps INTERPOLATE INTERPOLATE_NAMES interpolate_named interpolate_names refl refl interpolate_among

pub select_type_among : (name : List ℕ) → is_some (select_type_named name) ≡ among select_names name
unfolding select_names select_type_named
select_type_among name = next (codes "point") name _ _ _ (next (codes "interval") name _ _ _ refl)

select_type_kept : Keeps SELECT_TYPE (text_as select_type_named)
unfolding leaves numbers named lists plain_objects objects select_names
select_type_kept = name_keeps SELECT_TYPE SELECT_NAMES select_type_named select_names refl refl select_type_among

pub point_event_among : (name : List ℕ) → is_some (select_event_named selection.Point name) ≡ among click_names name
unfolding click_names
point_event_among name = next (codes "click") name _ _ _ refl

point_event_kept : Keeps POINT_EVENTS (text_as (select_event_named selection.Point))
unfolding leaves numbers named lists plain_objects objects click_names
point_event_kept = name_keeps POINT_EVENTS CLICK_NAMES (select_event_named selection.Point) click_names refl refl point_event_among

pub interval_event_among : (name : List ℕ) → is_some (select_event_named selection.Interval name) ≡ among drag_names name
unfolding drag_names
interval_event_among name = next (codes "[mousedown, mouseup] > mousemove") name _ _ _ refl

interval_event_kept : Keeps INTERVAL_EVENTS (text_as (select_event_named selection.Interval))
unfolding leaves numbers named lists plain_objects objects drag_names
interval_event_kept = name_keeps INTERVAL_EVENTS DRAG_NAMES (select_event_named selection.Interval) drag_names refl refl interval_event_among

pub field_type_among : (name : List ℕ) → is_some (field_type_named name) ≡ among type_names name
unfolding type_names field_type_named
field_type_among name =
    next (codes "quantitative") name _ _ _ (next (codes "temporal") name _ _ _ (next (codes "ordinal") name _ _ _
    (next (codes "nominal") name _ _ _ refl)))

field_type_kept : Keeps FIELD_TYPE (text_as field_type_named)
unfolding leaves numbers named lists plain_objects objects type_names
field_type_kept = name_keeps FIELD_TYPE TYPE_NAMES field_type_named type_names refl refl field_type_among

pub scheme_among : (name : List ℕ) → is_some (scheme_named name) ≡ among scheme_names name
unfolding scheme_names scheme_named
scheme_among name = next (codes "tableau10") name _ _ _ (next (codes "blues") name _ _ _ refl)

scheme_kept : Keeps SCHEME (text_as scheme_named)
unfolding leaves numbers named lists plain_objects objects scheme_names
scheme_kept = name_keeps SCHEME SCHEME_NAMES scheme_named scheme_names refl refl scheme_among

pub offset_among : (name : List ℕ) → is_some (offset_named name) ≡ among offset_names name
unfolding offset_names offset_named
offset_among name = next (codes "zero") name _ _ _ (next (codes "normalize") name _ _ _ (next (codes "center") name _ _ _ refl))

offset_kept : Keeps OFFSET (text_as offset_named)
unfolding leaves numbers named lists plain_objects objects offset_names
offset_kept = name_keeps OFFSET OFFSET_NAMES offset_named offset_names refl refl offset_among

pub order_among : (name : List ℕ) → is_some (order_named name) ≡ among order_names name
unfolding order_names order_named
order_among name = next (codes "ascending") name _ _ _ (next (codes "descending") name _ _ _ refl)

order_kept : Keeps ORDER (text_as order_named)
unfolding leaves numbers named lists plain_objects objects order_names
order_kept = name_keeps ORDER ORDER_NAMES order_named order_names refl refl order_among

pub sharing_among : (name : List ℕ) → is_some (sharing_named name) ≡ among sharing_names name
unfolding sharing_names sharing_named
sharing_among name = next (codes "shared") name _ _ _ (next (codes "independent") name _ _ _ refl)

sharing_kept : Keeps SHARING (text_as sharing_named)
unfolding leaves numbers named lists plain_objects objects sharing_names
sharing_kept = name_keeps SHARING SHARING_NAMES sharing_named sharing_names refl refl sharing_among

pub side_among : (name : List ℕ) → is_some (side_named name) ≡ among side_names name
unfolding side_names side_named
side_among name = next (codes "left") name _ _ _ (next (codes "right") name _ _ _ (next (codes "top") name _ _ _ (next (codes "bottom") name _ _ _ refl)))

side_kept : Keeps SIDE (text_as side_named)
unfolding leaves numbers named lists plain_objects objects side_names
side_kept = name_keeps SIDE SIDE_NAMES side_named side_names refl refl side_among

pub names_kept : NamesAreKept
names_kept = record {
  autosize = autosize_kept;
  format_kind = format_kind_kept;
  parse_kind = parse_kind_kept;
  mark_type = mark_type_kept;
  align = align_kept;
  baseline = baseline_kept;
  interpolate = interpolate_kept;
  select_type = select_type_kept;
  point_event = point_event_kept;
  interval_event = interval_event_kept;
  field_type = field_type_kept;
  scheme = scheme_kept;
  offset = offset_kept;
  order = order_kept;
  sharing = sharing_kept;
  side = side_kept;
}

-- ---- names of tables of codes

channel_among : (name : List ℕ) → is_some (channel_named name) ≡ among channel_names name
unfolding channel_names
channel_among name = position_keeps (λ n. bytes_eq n name) channel_names

channel_kept : Keeps CHANNEL_NAME (text_as channel_named)
unfolding leaves numbers named lists plain_objects objects channel_names
channel_kept = name_keeps CHANNEL_NAME CHANNEL_NAMES channel_named channel_names refl refl channel_among

window_operation_among : (name : List ℕ) → is_some (window_operation_named name) ≡ among window_names name
unfolding window_names
window_operation_among name = position_keeps (λ n. bytes_eq n name) window_names

window_operation_kept : Keeps WINDOW_OPERATION (text_as window_operation_named)
unfolding leaves numbers named lists plain_objects objects window_names
window_operation_kept = name_keeps WINDOW_OPERATION WINDOW_NAMES window_operation_named window_names refl refl window_operation_among

time_unit_among : (name : List ℕ) → is_some (time_unit_named name) ≡ among unit_names name
unfolding unit_names
time_unit_among name = position_keeps (λ n. bytes_eq n name) unit_names

time_unit_kept : Keeps TIME_UNIT (text_as time_unit_named)
unfolding leaves numbers named lists plain_objects objects unit_names
time_unit_kept = name_keeps TIME_UNIT UNIT_NAMES time_unit_named unit_names refl refl time_unit_among

operation_among : (name : List ℕ) → is_some (operation_named name) ≡ among operation_names name
unfolding operation_names
operation_among name =
    below_keeps (λ n. bytes_eq n name) aggregates operation_names (codes "row_number" ∷ codes "rank" ∷ codes "dense_rank" ∷ codes "lag" ∷ codes "lead"
    ∷ codes "first_value" ∷ codes "last_value" ∷ []) refl

operation_kept : Keeps OPERATION (text_as operation_named)
unfolding leaves numbers named lists plain_objects objects operation_names
operation_kept = name_keeps OPERATION OPERATION_NAMES operation_named operation_names refl refl operation_among

scale_kind_among : (name : List ℕ) → is_some (scale_kind_named name) ≡ among scale_names name
unfolding scale_names
scale_kind_among name = below_keeps (λ n. bytes_eq n name) scale_types scale_names (codes "ramp" ∷ []) refl

scale_kind_kept : Keeps SCALE_TYPE (text_as scale_kind_named)
unfolding leaves numbers named lists plain_objects objects scale_names
scale_kind_kept = name_keeps SCALE_TYPE SCALE_NAMES scale_kind_named scale_names refl refl scale_kind_among

pub codes_kept : CodesAreKept
codes_kept = record {
  channel = channel_kept;
  operation = operation_kept;
  window_operation = window_operation_kept;
  time_unit = time_unit_kept;
  scale_kind = scale_kind_kept;
}
