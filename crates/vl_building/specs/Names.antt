-- What names stand for.
use Rattle.std.specs.Prelude.{◌≡◌, refl, ℕ, Option, Some, None, List, codes, nat_lt, if◌then◌else◌}
use Rattle.std.specs.Option.{option_map, option_and_then, unwrap_or}
use Rattle.std.specs.List.{filter_map}
use Rattle.std.specs.Str.{bytes_eq}
use Rattle.json_exact.specs.declared.json.Json.{Json, out-Json}
use Rattle.json_exact.specs.declared.json.Member.{Member}
use Rattle.json_exact.specs.Inside.{text_in, items_in}
use Rattle.case_table.specs.Names.{index_of, operations, time_units, scale_kinds, channels}
use Rattle.vl_spec.specs.declared.orders.Order.{Order}
use Rattle.vl_spec.specs.declared.orders.Order.TheVariants as order
use Rattle.vl_spec.specs.declared.orders.Offset.{Offset}
use Rattle.vl_spec.specs.declared.orders.Offset.TheVariants as offset
use Rattle.vl_spec.specs.declared.sources.FormatKind.{FormatKind}
use Rattle.vl_spec.specs.declared.sources.FormatKind.TheVariants as format_kind
use Rattle.vl_spec.specs.declared.sources.ParseKind.{ParseKind}
use Rattle.vl_spec.specs.declared.sources.ParseKind.TheVariants as parse_kind
use Rattle.vl_spec.specs.declared.marks.MarkType.{MarkType}
use Rattle.vl_spec.specs.declared.marks.MarkType.TheVariants as mark_type
use Rattle.vl_spec.specs.declared.marks.Align.{Align}
use Rattle.vl_spec.specs.declared.marks.Align.TheVariants as align
use Rattle.vl_spec.specs.declared.marks.Baseline.{Baseline}
use Rattle.vl_spec.specs.declared.marks.Baseline.TheVariants as baseline
use Rattle.vl_spec.specs.declared.marks.Interpolate.{Interpolate}
use Rattle.vl_spec.specs.declared.marks.Interpolate.TheVariants as interpolate
use Rattle.vl_spec.specs.declared.params.SelectType.{SelectType}
use Rattle.vl_spec.specs.declared.params.SelectType.TheVariants as select_type
use Rattle.vl_spec.specs.declared.params.SelectEvent.{SelectEvent}
use Rattle.vl_spec.specs.declared.params.SelectEvent.TheVariants as select_event
use Rattle.vl_spec.specs.declared.definitions.FieldType.{FieldType}
use Rattle.vl_spec.specs.declared.definitions.FieldType.TheVariants as field_type
use Rattle.vl_spec.specs.declared.scales.Scheme.{Scheme}
use Rattle.vl_spec.specs.declared.scales.Scheme.TheVariants as scheme
use Rattle.vl_spec.specs.declared.sizes.Sharing.{Sharing}
use Rattle.vl_spec.specs.declared.sizes.Sharing.TheVariants as sharing
use Rattle.vl_spec.specs.declared.guides.Side.{Side}
use Rattle.vl_spec.specs.declared.guides.Side.TheVariants as side
use Rattle.vl_spec.specs.declared.sizes.Autosize.{Autosize}
use Rattle.vl_spec.specs.declared.sizes.Autosize.TheVariants as autosize
use Rattle.tree_readers.specs.Parts.{found_at, text_at}

-- what the name under a name stands for
abbrev pub named_at : {A : Type 0} → (List ℕ → Option A) → List Member → List ℕ → Option A
named_at named members name = option_and_then named (text_at members name)

-- what a name that is an item stands for
abbrev pub named_in : {A : Type 0} → (List ℕ → Option A) → Json → Option A
named_in named tree = option_and_then named (text_in (out-Json tree))

-- directions
unfoldable pub order_named : List ℕ → Option Order
order_named name =
    if bytes_eq name (codes "ascending") then Some order.Ascending
    else (if bytes_eq name (codes "descending") then Some order.Descending
    else None)

-- where stacks begin
unfoldable pub offset_named : List ℕ → Option Offset
offset_named name =
    if bytes_eq name (codes "zero") then Some offset.Zero
    else (if bytes_eq name (codes "normalize") then Some offset.Normalize
    else (if bytes_eq name (codes "center") then Some offset.Center
    else None))

-- types of data files
unfoldable pub format_kind_named : List ℕ → Option FormatKind
format_kind_named name =
    if bytes_eq name (codes "json") then Some format_kind.Json
    else (if bytes_eq name (codes "csv") then Some format_kind.Csv
    else None)

-- readings of texts
unfoldable pub parse_kind_named : List ℕ → Option ParseKind
parse_kind_named name =
    if bytes_eq name (codes "number") then Some parse_kind.Number
    else (if bytes_eq name (codes "boolean") then Some parse_kind.Boolean
    else (if bytes_eq name (codes "string") then Some parse_kind.String
    else (if bytes_eq name (codes "date") then Some parse_kind.Date
    else None)))

-- types of marks
unfoldable pub mark_type_named : List ℕ → Option MarkType
mark_type_named name =
    if bytes_eq name (codes "bar") then Some mark_type.Bar
    else (if bytes_eq name (codes "rect") then Some mark_type.Rect
    else (if bytes_eq name (codes "point") then Some mark_type.Point
    else (if bytes_eq name (codes "circle") then Some mark_type.Circle
    else (if bytes_eq name (codes "square") then Some mark_type.Square
    else (if bytes_eq name (codes "line") then Some mark_type.Line
    else (if bytes_eq name (codes "area") then Some mark_type.Area
    else (if bytes_eq name (codes "tick") then Some mark_type.Tick
    else (if bytes_eq name (codes "rule") then Some mark_type.Rule
    else (if bytes_eq name (codes "text") then Some mark_type.Text
    else None)))))))))

-- where texts are anchored
unfoldable pub align_named : List ℕ → Option Align
align_named name =
    if bytes_eq name (codes "left") then Some align.Left
    else (if bytes_eq name (codes "center") then Some align.Center
    else (if bytes_eq name (codes "right") then Some align.Right
    else None))

-- where the baselines of texts are
unfoldable pub baseline_named : List ℕ → Option Baseline
baseline_named name =
    if bytes_eq name (codes "top") then Some baseline.Top
    else (if bytes_eq name (codes "middle") then Some baseline.Middle
    else (if bytes_eq name (codes "bottom") then Some baseline.Bottom
    else (if bytes_eq name (codes "alphabetic") then Some baseline.Alphabetic
    else None)))

-- how the points of lines are joined
unfoldable pub interpolate_named : List ℕ → Option Interpolate
interpolate_named name =
    if bytes_eq name (codes "linear") then Some interpolate.Linear
    else None

-- types of selections
unfoldable pub select_type_named : List ℕ → Option SelectType
select_type_named name =
    if bytes_eq name (codes "point") then Some select_type.Point
    else (if bytes_eq name (codes "interval") then Some select_type.Interval
    else None)

-- the event that sets selections of a type
abbrev pub select_event_named : SelectType → List ℕ → Option SelectEvent
select_event_named select_type.Point name =
    if bytes_eq name (codes "click") then Some select_event.Click
    else None
select_event_named select_type.Interval name =
    if bytes_eq name (codes "[mousedown, mouseup] > mousemove") then Some select_event.Drag
    else None

-- kinds of cells
unfoldable pub field_type_named : List ℕ → Option FieldType
field_type_named name =
    if bytes_eq name (codes "quantitative") then Some field_type.Quantitative
    else (if bytes_eq name (codes "temporal") then Some field_type.Temporal
    else (if bytes_eq name (codes "ordinal") then Some field_type.Ordinal
    else (if bytes_eq name (codes "nominal") then Some field_type.Nominal
    else None)))

-- colour schemes
unfoldable pub scheme_named : List ℕ → Option Scheme
scheme_named name =
    if bytes_eq name (codes "tableau10") then Some scheme.Tableau10
    else (if bytes_eq name (codes "blues") then Some scheme.Blues
    else None)

-- whether views share a scale
unfoldable pub sharing_named : List ℕ → Option Sharing
sharing_named name =
    if bytes_eq name (codes "shared") then Some sharing.Shared
    else (if bytes_eq name (codes "independent") then Some sharing.Independent
    else None)

-- sides of a plot
unfoldable pub side_named : List ℕ → Option Side
side_named name =
    if bytes_eq name (codes "left") then Some side.Left
    else (if bytes_eq name (codes "right") then Some side.Right
    else (if bytes_eq name (codes "top") then Some side.Top
    else (if bytes_eq name (codes "bottom") then Some side.Bottom
    else None)))

-- how a picture's size is found
unfoldable pub autosize_named : List ℕ → Option Autosize
autosize_named name =
    if bytes_eq name (codes "pad") then Some autosize.Pad
    else None

-- how many operations are those of aggregates; those that windows have besides come after them
abbrev pub aggregates : ℕ
aggregates = 12

-- how many kinds of scales are types; the kind that is none comes after them
abbrev pub scale_types : ℕ
scale_types = 5

-- a code below a limit
abbrev pub below : ℕ → ℕ → Option ℕ
below limit code = if nat_lt code limit then Some code else None

-- the code of an operation of windows
abbrev pub window_operation_named : List ℕ → Option ℕ
window_operation_named = index_of operations

-- the code of an operation of aggregates
abbrev pub operation_named : List ℕ → Option ℕ
operation_named name = option_and_then (below aggregates) (index_of operations name)

-- the code of a unit of time
abbrev pub time_unit_named : List ℕ → Option ℕ
time_unit_named = index_of time_units

-- the code of a type of scales
abbrev pub scale_kind_named : List ℕ → Option ℕ
scale_kind_named name = option_and_then (below scale_types) (index_of scale_kinds name)

-- the code of a channel
abbrev pub channel_named : List ℕ → Option ℕ
channel_named = index_of channels

-- the codes of the channels that the items of a list under a name name; an item that names none gives none
abbrev pub channels_at : List Member → List ℕ → Option (List ℕ)
channels_at members name = option_map (filter_map (named_in channel_named)) (found_at items_in members name)

-- the code of the operation under a name, 0 where there is none
abbrev pub needed_operation : List Member → List ℕ → ℕ
needed_operation members name = unwrap_or (named_at operation_named members name) 0

-- the code of the operation of windows under a name, 0 where there is none
abbrev pub needed_window_operation : List Member → List ℕ → ℕ
needed_window_operation members name = unwrap_or (named_at window_operation_named members name) 0

-- the code of the unit of time under a name, 0 where there is none
abbrev pub needed_time_unit : List Member → List ℕ → ℕ
needed_time_unit members name = unwrap_or (named_at time_unit_named members name) 0

-- the type of a mark under a name, a bar where there is none
abbrev pub needed_mark_type : List Member → List ℕ → MarkType
needed_mark_type members name = unwrap_or (named_at mark_type_named members name) mark_type.Bar

-- the type of a selection under a name, that of points where there is none
abbrev pub needed_select_type : List Member → List ℕ → SelectType
needed_select_type members name = unwrap_or (named_at select_type_named members name) select_type.Point

-- the reading of texts that a value names, as numbers where it names none
abbrev pub parse_kind_of : Json → ParseKind
parse_kind_of tree = unwrap_or (named_in parse_kind_named tree) parse_kind.Number

-- The rules at work.

aggregates_have_no_ranks : operation_named (codes "rank") ≡ None
aggregates_have_no_ranks = refl

windows_have : window_operation_named (codes "rank") ≡ Some 13
windows_have = refl

a_ramp_is_no_type : scale_kind_named (codes "ramp") ≡ None
a_ramp_is_no_type = refl

a_unit_of_UTC_is_one_of_its_own : time_unit_named (codes "utcyear") ≡ Some 16
a_unit_of_UTC_is_one_of_its_own = refl

a_tooltip_is_no_channel : channel_named (codes "tooltip") ≡ None
a_tooltip_is_no_channel = refl

a_drag_sets_no_points : select_event_named select_type.Point (codes "[mousedown, mouseup] > mousemove") ≡ None
a_drag_sets_no_points = refl

nor_a_click_an_interval : select_event_named select_type.Interval (codes "click") ≡ None
nor_a_click_an_interval = refl
