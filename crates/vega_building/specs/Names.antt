-- What names stand for.
use Rattle.std.specs.Prelude.{ℕ, Option, Some, None, List, codes, if◌then◌else◌}
use Rattle.std.specs.Option.{option_and_then, unwrap_or}
use Rattle.std.specs.Str.{bytes_eq}
use Rattle.json_exact.specs.declared.json.Json.{Json, out-Json}
use Rattle.json_exact.specs.declared.json.Member.{Member}
use Rattle.json_exact.specs.Inside.{text_in}
use Rattle.case_table.specs.Names.{index_of, operations, time_units, scale_kinds}
use Rattle.vega_spec.specs.declared.orders.Order.{Order}
use Rattle.vega_spec.specs.declared.orders.Order.TheVariants as order
use Rattle.vega_spec.specs.declared.data.FormatKind.{FormatKind}
use Rattle.vega_spec.specs.declared.data.FormatKind.TheVariants as format_kind
use Rattle.vega_spec.specs.declared.data.ParseKind.{ParseKind}
use Rattle.vega_spec.specs.declared.data.ParseKind.TheVariants as parse_kind
use Rattle.vega_spec.specs.declared.transforms.Offset.{Offset}
use Rattle.vega_spec.specs.declared.transforms.Offset.TheVariants as offset
use Rattle.vega_spec.specs.declared.signals.EventSelector.{EventSelector}
use Rattle.vega_spec.specs.declared.signals.EventSelector.TheVariants as selector
use Rattle.vega_spec.specs.declared.marks.MarkType.{MarkType}
use Rattle.vega_spec.specs.declared.marks.MarkType.TheVariants as mark_type
use Rattle.vega_spec.specs.declared.marks.Header.{Header}
use Rattle.vega_spec.specs.declared.marks.Header.TheVariants as header
use Rattle.vega_spec.specs.declared.guides.Side.{Side}
use Rattle.vega_spec.specs.declared.guides.Side.TheVariants as side
use Rattle.vega_spec.specs.declared.guides.Edge.{Edge}
use Rattle.vega_spec.specs.declared.guides.Edge.TheVariants as edge
use Rattle.vega_spec.specs.declared.spec.Autosize.{Autosize}
use Rattle.vega_spec.specs.declared.spec.Autosize.TheVariants as autosize
use Rattle.tree_readers.specs.Parts.{text_at}

-- what the name under a name stands for
abbrev pub named_at : {A : Type 0} → (List ℕ → Option A) → List Member → List ℕ → Option A
named_at named members name = option_and_then named (text_at members name)

-- what a name that is an item stands for
abbrev pub named_in : {A : Type 0} → (List ℕ → Option A) → Json → Option A
named_in named tree = option_and_then named (text_in (out-Json tree))

-- directions
abbrev pub order_named : List ℕ → Option Order
order_named name =
    if bytes_eq name (codes "ascending") then Some order.Ascending
    else (if bytes_eq name (codes "descending") then Some order.Descending
    else None)

-- the direction that an item is, ascending where it is none
abbrev pub order_of : Json → Order
order_of tree = unwrap_or (named_in order_named tree) order.Ascending

-- types of data files
abbrev pub format_kind_named : List ℕ → Option FormatKind
format_kind_named name =
    if bytes_eq name (codes "json") then Some format_kind.Json
    else (if bytes_eq name (codes "csv") then Some format_kind.Csv
    else None)

-- readings of texts
abbrev pub parse_kind_named : List ℕ → Option ParseKind
parse_kind_named name =
    if bytes_eq name (codes "number") then Some parse_kind.Number
    else (if bytes_eq name (codes "boolean") then Some parse_kind.Boolean
    else (if bytes_eq name (codes "string") then Some parse_kind.String
    else (if bytes_eq name (codes "date") then Some parse_kind.Date
    else None)))

-- where stacks begin
abbrev pub offset_named : List ℕ → Option Offset
offset_named name =
    if bytes_eq name (codes "zero") then Some offset.Zero
    else (if bytes_eq name (codes "normalize") then Some offset.Normalize
    else (if bytes_eq name (codes "center") then Some offset.Center
    else None))

-- event selectors
abbrev pub selector_named : List ℕ → Option EventSelector
selector_named name =
    if bytes_eq name (codes "click") then Some selector.Click
    else (if bytes_eq name (codes "click[event.shiftKey]") then Some selector.ShiftClick
    else (if bytes_eq name (codes "dblclick") then Some selector.DoubleClick
    else (if bytes_eq name (codes "[mousedown, mouseup] > mousemove") then Some selector.Drag
    else None)))

-- types of marks
abbrev pub mark_type_named : List ℕ → Option MarkType
mark_type_named name =
    if bytes_eq name (codes "rect") then Some mark_type.Rect
    else (if bytes_eq name (codes "symbol") then Some mark_type.Symbol
    else (if bytes_eq name (codes "line") then Some mark_type.Line
    else (if bytes_eq name (codes "area") then Some mark_type.Area
    else (if bytes_eq name (codes "rule") then Some mark_type.Rule
    else (if bytes_eq name (codes "text") then Some mark_type.Text
    else (if bytes_eq name (codes "group") then Some mark_type.Group
    else None))))))

-- places of headers
abbrev pub header_named : List ℕ → Option Header
header_named name =
    if bytes_eq name (codes "row") then Some header.Row
    else (if bytes_eq name (codes "column") then Some header.Column
    else None)

-- sides of a plot
abbrev pub side_named : List ℕ → Option Side
side_named name =
    if bytes_eq name (codes "left") then Some side.Left
    else (if bytes_eq name (codes "right") then Some side.Right
    else (if bytes_eq name (codes "top") then Some side.Top
    else (if bytes_eq name (codes "bottom") then Some side.Bottom
    else None)))

-- panels in which an axis stands alone
abbrev pub edge_named : List ℕ → Option Edge
edge_named name =
    if bytes_eq name (codes "last-row") then Some edge.LastRow
    else (if bytes_eq name (codes "first-column") then Some edge.FirstColumn
    else None)

-- how a picture's size is found
abbrev pub autosize_named : List ℕ → Option Autosize
autosize_named name = if bytes_eq name (codes "pad") then Some autosize.Pad else None

-- the code of an operation
abbrev pub operation_named : List ℕ → Option ℕ
operation_named = index_of operations

-- the code of the operation that an item is, 0 where it is none
abbrev pub operation_of : Json → ℕ
operation_of tree = unwrap_or (named_in operation_named tree) 0

-- the code of the operation under a name, 0 where there is none
abbrev pub needed_operation : List Member → List ℕ → ℕ
needed_operation members name = unwrap_or (named_at operation_named members name) 0

-- the code of the time unit under a name, 0 where there is none
abbrev pub needed_time_unit : List Member → List ℕ → ℕ
needed_time_unit members name = unwrap_or (named_at (index_of time_units) members name) 0

-- the code of the type of a scale under a name, 0 where there is none
abbrev pub needed_scale_kind : List Member → List ℕ → ℕ
needed_scale_kind members name = unwrap_or (named_at (index_of scale_kinds) members name) 0

-- the event selector under a name
abbrev pub needed_selector : List Member → List ℕ → EventSelector
needed_selector members name = unwrap_or (named_at selector_named members name) selector.Click

-- the type of a mark under a name
abbrev pub needed_mark_type : List Member → List ℕ → MarkType
needed_mark_type members name = unwrap_or (named_at mark_type_named members name) mark_type.Rect

-- the side under a name
abbrev pub needed_side : List Member → List ℕ → Side
needed_side members name = unwrap_or (named_at side_named members name) side.Left

-- the reading of texts that an item names, as numbers where it names none
abbrev pub parse_kind_of : Json → ParseKind
parse_kind_of tree = unwrap_or (named_in parse_kind_named tree) parse_kind.Number

-- the place of a header that an item names, if it names one
abbrev pub maybe_header : Json → Option Header
maybe_header = named_in header_named
