-- Names are read back.
use Rattle.std.proofs.Common.{◌≡◌, ap}
use Rattle.std.specs.Option.{option_and_then, unwrap_or}
use Rattle.std.specs.Prelude.{Option, Some, None, codes}
use Rattle.json_exact.specs.Inside.{text_in}
use Rattle.vega_spec.specs.declared.data.FormatKind.{FormatKind}
use Rattle.vega_spec.specs.declared.data.ParseKind.{ParseKind}
use Rattle.vega_spec.specs.declared.guides.Edge.{Edge}
use Rattle.vega_spec.specs.declared.guides.Side.{Side}
use Rattle.vega_spec.specs.declared.marks.Header.{Header}
use Rattle.vega_spec.specs.declared.marks.MarkType.{MarkType}
use Rattle.vega_spec.specs.declared.orders.Order.{Order}
use Rattle.vega_spec.specs.declared.signals.EventSelector.{EventSelector}
use Rattle.vega_spec.specs.declared.spec.Autosize.{Autosize}
use Rattle.vega_spec.specs.declared.transforms.Offset.{Offset}
use Rattle.vega_building.specs.Names.{named_in, order_named, order_of, format_kind_named, parse_kind_named, offset_named, selector_named}
use Rattle.vega_building.specs.Names.{mark_type_named, header_named, side_named, edge_named, autosize_named, maybe_header}
use Rattle.vega_writing.specs.Data.{format_kind_tree, parse_kind_tree}
use Rattle.vega_writing.specs.Guides.{side_tree, edge_tree}
use Rattle.vega_writing.specs.Marks.{mark_type_tree, header_tree}
use Rattle.vega_writing.specs.Orders.{order_tree}
use Rattle.vega_writing.specs.Signals.{event_selector_tree}
use Rattle.vega_writing.specs.Spec.{autosize_tree}
use Rattle.vega_writing.specs.Transforms.{offset_tree}
use Rattle.vega_writing.specs.Trees.{or_null}
use Rattle.vega_model.proofs.Back.{opened_null, named_word}
use Rattle.vega_spec.specs.declared.orders.Order.TheVariants as order
use Rattle.vega_spec.specs.declared.data.FormatKind.TheVariants as file
use Rattle.vega_spec.specs.declared.data.ParseKind.TheVariants as parsed
use Rattle.vega_spec.specs.declared.guides.Side.TheVariants as side
use Rattle.vega_spec.specs.declared.guides.Edge.TheVariants as edge
use Rattle.vega_spec.specs.declared.marks.MarkType.TheVariants as mark
use Rattle.vega_spec.specs.declared.marks.Header.TheVariants as header
use Rattle.vega_spec.specs.declared.signals.EventSelector.TheVariants as events
use Rattle.vega_spec.specs.declared.spec.Autosize.TheVariants as autosize
use Rattle.vega_spec.specs.declared.transforms.Offset.TheVariants as offset

pub order_reads : (x : Order) → named_in order_named (order_tree x) ≡ Some x
unfolding order_tree
order_reads order.Ascending = named_word order_named (codes "ascending")
order_reads order.Descending = named_word order_named (codes "descending")

pub format_kind_reads : (x : FormatKind) → named_in format_kind_named (format_kind_tree x) ≡ Some x
unfolding format_kind_tree
format_kind_reads file.Json = named_word format_kind_named (codes "json")
format_kind_reads file.Csv = named_word format_kind_named (codes "csv")

pub parse_kind_reads : (x : ParseKind) → named_in parse_kind_named (parse_kind_tree x) ≡ Some x
unfolding parse_kind_tree
parse_kind_reads parsed.Number = named_word parse_kind_named (codes "number")
parse_kind_reads parsed.Boolean = named_word parse_kind_named (codes "boolean")
parse_kind_reads parsed.String = named_word parse_kind_named (codes "string")
parse_kind_reads parsed.Date = named_word parse_kind_named (codes "date")

pub offset_reads : (x : Offset) → named_in offset_named (offset_tree x) ≡ Some x
unfolding offset_tree
offset_reads offset.Zero = named_word offset_named (codes "zero")
offset_reads offset.Normalize = named_word offset_named (codes "normalize")
offset_reads offset.Center = named_word offset_named (codes "center")

pub selector_reads : (x : EventSelector) → named_in selector_named (event_selector_tree x) ≡ Some x
unfolding event_selector_tree
selector_reads events.Click = named_word selector_named (codes "click")
selector_reads events.ShiftClick = named_word selector_named (codes "click[event.shiftKey]")
selector_reads events.DoubleClick = named_word selector_named (codes "dblclick")
selector_reads events.Drag = named_word selector_named (codes "[mousedown, mouseup] > mousemove")

pub mark_type_reads : (x : MarkType) → named_in mark_type_named (mark_type_tree x) ≡ Some x
unfolding mark_type_tree
mark_type_reads mark.Rect = named_word mark_type_named (codes "rect")
mark_type_reads mark.Symbol = named_word mark_type_named (codes "symbol")
mark_type_reads mark.Line = named_word mark_type_named (codes "line")
mark_type_reads mark.Area = named_word mark_type_named (codes "area")
mark_type_reads mark.Rule = named_word mark_type_named (codes "rule")
mark_type_reads mark.Text = named_word mark_type_named (codes "text")
mark_type_reads mark.Group = named_word mark_type_named (codes "group")

pub header_reads : (x : Header) → named_in header_named (header_tree x) ≡ Some x
unfolding header_tree
header_reads header.Row = named_word header_named (codes "row")
header_reads header.Column = named_word header_named (codes "column")

pub side_reads : (x : Side) → named_in side_named (side_tree x) ≡ Some x
unfolding side_tree
side_reads side.Left = named_word side_named (codes "left")
side_reads side.Right = named_word side_named (codes "right")
side_reads side.Top = named_word side_named (codes "top")
side_reads side.Bottom = named_word side_named (codes "bottom")

pub edge_reads : (x : Edge) → named_in edge_named (edge_tree x) ≡ Some x
unfolding edge_tree
edge_reads edge.LastRow = named_word edge_named (codes "last-row")
edge_reads edge.FirstColumn = named_word edge_named (codes "first-column")

pub autosize_reads : (x : Autosize) → named_in autosize_named (autosize_tree x) ≡ Some x
unfolding autosize_tree
autosize_reads autosize.Pad = named_word autosize_named (codes "pad")

pub order_back : (x : Order) → order_of (order_tree x) ≡ x
order_back x = ap (λ o. unwrap_or o order.Ascending) (order_reads x)

pub parse_kind_back : (x : ParseKind) → unwrap_or (named_in parse_kind_named (parse_kind_tree x)) parsed.Number ≡ x
parse_kind_back x = ap (λ o. unwrap_or o parsed.Number) (parse_kind_reads x)

pub maybe_header_back : (o : Option Header) → maybe_header (or_null header_tree o) ≡ o
maybe_header_back None = ap (λ t. option_and_then header_named (text_in t)) opened_null
maybe_header_back (Some x) = header_reads x
