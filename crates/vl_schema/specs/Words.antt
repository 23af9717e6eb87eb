-- The lists of names, in the order of their codes.
use Rattle.std.specs.Prelude.{ℕ, List, [], ◌∷◌, ◌++◌, codes}

-- what `autosize` may say
unfoldable pub autosize_names : List (List ℕ)
autosize_names =
    codes "pad" ∷
    []

-- the types of data files
unfoldable pub format_names : List (List ℕ)
format_names =
    codes "json" ∷ codes "csv" ∷
    []

-- how the texts of a field are read
unfoldable pub parse_names : List (List ℕ)
parse_names =
    codes "number" ∷ codes "boolean" ∷ codes "string" ∷ codes "date" ∷
    []

-- the types of marks
unfoldable pub mark_names : List (List ℕ)
mark_names =
    codes "bar" ∷ codes "rect" ∷ codes "point" ∷ codes "circle" ∷ codes "square" ∷ codes "line" ∷ codes "area" ∷
    codes "tick" ∷ codes "rule" ∷ codes "text" ∷
    []

-- where a text is anchored
unfoldable pub align_names : List (List ℕ)
align_names =
    codes "left" ∷ codes "center" ∷ codes "right" ∷
    []

-- where the baseline of a text is
unfoldable pub baseline_names : List (List ℕ)
baseline_names =
    codes "top" ∷ codes "middle" ∷ codes "bottom" ∷ codes "alphabetic" ∷
    []

-- how the points of a line are joined
unfoldable pub interpolate_names : List (List ℕ)
interpolate_names =
    codes "linear" ∷
    []

-- what a parameter may not be bound to
unfoldable pub bind_names : List (List ℕ)
bind_names =
    codes "scales" ∷ codes "legend" ∷
    []

-- the types of selections
unfoldable pub select_names : List (List ℕ)
select_names =
    codes "point" ∷ codes "interval" ∷
    []

-- the event that sets a point selection
unfoldable pub click_names : List (List ℕ)
click_names =
    codes "click" ∷
    []

-- the event that sets an interval selection
unfoldable pub drag_names : List (List ℕ)
drag_names =
    codes "[mousedown, mouseup] > mousemove" ∷
    []

-- the events that set some selection
unfoldable pub event_names : List (List ℕ)
event_names =
    codes "click" ∷ codes "[mousedown, mouseup] > mousemove" ∷
    []

-- the event that clears a selection
unfoldable pub clear_names : List (List ℕ)
clear_names =
    codes "dblclick" ∷
    []

-- the event that toggles a selection
unfoldable pub toggle_names : List (List ℕ)
toggle_names =
    codes "event.shiftKey" ∷
    []

-- the channels
unfoldable pub channel_names : List (List ℕ)
channel_names =
    codes "x" ∷ codes "y" ∷ codes "x2" ∷ codes "y2" ∷ codes "color" ∷ codes "opacity" ∷ codes "size" ∷
    codes "shape" ∷ codes "detail" ∷ codes "text" ∷ codes "row" ∷ codes "column" ∷ codes "facet" ∷
    []

-- the types of fields
unfoldable pub type_names : List (List ℕ)
type_names =
    codes "quantitative" ∷ codes "temporal" ∷ codes "ordinal" ∷ codes "nominal" ∷
    []

-- the operations of aggregates
unfoldable pub operation_names : List (List ℕ)
operation_names =
    codes "count" ∷ codes "valid" ∷ codes "missing" ∷ codes "distinct" ∷ codes "sum" ∷ codes "mean" ∷
    codes "average" ∷ codes "min" ∷ codes "max" ∷ codes "median" ∷ codes "q1" ∷ codes "q3" ∷
    []

-- the operations of windows
unfoldable pub window_names : List (List ℕ)
window_names =
    codes "count" ∷ codes "valid" ∷ codes "missing" ∷ codes "distinct" ∷ codes "sum" ∷ codes "mean" ∷
    codes "average" ∷ codes "min" ∷ codes "max" ∷ codes "median" ∷ codes "q1" ∷ codes "q3" ∷ codes "row_number" ∷
    codes "rank" ∷ codes "dense_rank" ∷ codes "lag" ∷ codes "lead" ∷ codes "first_value" ∷ codes "last_value" ∷
    []

-- the time units
unfoldable pub unit_names : List (List ℕ)
unit_names =
    codes "year" ∷ codes "yearquarter" ∷ codes "quarter" ∷ codes "yearmonth" ∷ codes "month" ∷
    codes "yearmonthdate" ∷ codes "monthdate" ∷ codes "date" ∷ codes "day" ∷ codes "yearmonthdatehours" ∷
    codes "hours" ∷ codes "yearmonthdatehoursminutes" ∷ codes "hoursminutes" ∷ codes "minutes" ∷
    codes "yearmonthdatehoursminutesseconds" ∷ codes "seconds" ∷ codes "utcyear" ∷ codes "utcyearquarter" ∷
    codes "utcquarter" ∷ codes "utcyearmonth" ∷ codes "utcmonth" ∷ codes "utcyearmonthdate" ∷ codes "utcmonthdate" ∷
    codes "utcdate" ∷ codes "utcday" ∷ codes "utcyearmonthdatehours" ∷ codes "utchours" ∷
    codes "utcyearmonthdatehoursminutes" ∷ codes "utchoursminutes" ∷ codes "utcminutes" ∷
    codes "utcyearmonthdatehoursminutesseconds" ∷ codes "utcseconds" ∷
    []

-- the types of scales
unfoldable pub scale_names : List (List ℕ)
scale_names =
    codes "linear" ∷ codes "time" ∷ codes "band" ∷ codes "point" ∷ codes "ordinal" ∷
    []

-- the colour schemes
unfoldable pub scheme_names : List (List ℕ)
scheme_names =
    codes "tableau10" ∷ codes "blues" ∷
    []

-- where stacks begin
unfoldable pub offset_names : List (List ℕ)
offset_names =
    codes "zero" ∷ codes "normalize" ∷ codes "center" ∷
    []

-- the directions of orders
unfoldable pub order_names : List (List ℕ)
order_names =
    codes "ascending" ∷ codes "descending" ∷
    []

-- the orders of a channel that are texts: a direction, or that of another channel
unfoldable pub sort_names : List (List ℕ)
sort_names =
    codes "ascending" ∷ codes "descending" ∷ codes "x" ∷ codes "-x" ∷ codes "y" ∷ codes "-y" ∷
    []

-- whether views share a scale
unfoldable pub sharing_names : List (List ℕ)
sharing_names =
    codes "shared" ∷ codes "independent" ∷
    []

-- the sides along which an x axis stands
unfoldable pub x_side_names : List (List ℕ)
x_side_names =
    codes "top" ∷ codes "bottom" ∷
    []

-- the sides along which a y axis stands
unfoldable pub y_side_names : List (List ℕ)
y_side_names =
    codes "left" ∷ codes "right" ∷
    []

-- the sides of a plot
unfoldable pub side_names : List (List ℕ)
side_names =
    codes "left" ∷ codes "right" ∷ codes "top" ∷ codes "bottom" ∷
    []

-- the members of which the first decides what a view is
unfoldable pub view_kinds : List (List ℕ)
view_kinds =
    codes "mark" ∷ codes "layer" ∷ codes "facet" ∷ codes "hconcat" ∷ codes "vconcat" ∷ codes "concat" ∷
    []

-- the members of which the first decides what the definition of a channel is
unfoldable pub channel_kinds : List (List ℕ)
channel_kinds =
    codes "value" ∷ codes "datum" ∷ codes "field" ∷ codes "aggregate" ∷ codes "bin" ∷ codes "timeUnit" ∷
    []

-- the members of which the first decides what a transform is
unfoldable pub transform_kinds : List (List ℕ)
transform_kinds =
    codes "filter" ∷ codes "calculate" ∷ codes "bin" ∷ codes "timeUnit" ∷ codes "aggregate" ∷ codes "joinaggregate" ∷
    codes "stack" ∷ codes "window" ∷ codes "lookup" ∷ codes "fold" ∷
    []

-- the members that some transform has besides
unfoldable pub transform_others : List (List ℕ)
transform_others =
    codes "as" ∷ codes "field" ∷ codes "groupby" ∷ codes "sort" ∷ codes "offset" ∷ codes "frame" ∷
    codes "ignorePeers" ∷ codes "from" ∷ codes "default" ∷
    []

-- the members of which a parameter has one at most
unfoldable pub parameter_kinds : List (List ℕ)
parameter_kinds =
    codes "value" ∷ codes "expr" ∷ codes "select" ∷
    []

-- the members of which a condition has exactly one
unfoldable pub test_kinds : List (List ℕ)
test_kinds =
    codes "param" ∷ codes "test" ∷
    []

-- the members of a definition over a field
unfoldable pub field_names : List (List ℕ)
field_names =
    codes "field" ∷ codes "type" ∷ codes "aggregate" ∷ codes "bin" ∷ codes "timeUnit" ∷ codes "title" ∷
    codes "sort" ∷ codes "scale" ∷ codes "stack" ∷ codes "axis" ∷ codes "legend" ∷ codes "header" ∷ codes "format" ∷
    codes "condition" ∷ codes "columns" ∷ codes "spacing" ∷
    []

-- the member that says nothing by itself
unfoldable pub condition_alone : List (List ℕ)
condition_alone =
    codes "condition" ∷
    []

-- the members of a facet that is read by rows and columns
unfoldable pub facet_parts : List (List ℕ)
facet_parts =
    codes "row" ∷ codes "column" ∷
    []

-- the members of which a filter over a field has exactly one
unfoldable pub comparisons : List (List ℕ)
comparisons =
    codes "equal" ∷ codes "lt" ∷ codes "lte" ∷ codes "gt" ∷ codes "gte" ∷ codes "range" ∷ codes "oneOf" ∷
    codes "valid" ∷
    []

-- the members that a filter over a field hasn't beside it, and itself
unfoldable pub filter_kinds : List (List ℕ)
filter_kinds =
    codes "param" ∷ codes "field" ∷ codes "and" ∷ codes "or" ∷ codes "not" ∷
    []

-- the members of which a filter over no field has exactly one
unfoldable pub filter_parts : List (List ℕ)
filter_parts =
    codes "param" ∷ codes "field" ∷ codes "and" ∷ codes "or" ∷ codes "not" ∷ codes "equal" ∷ codes "lt" ∷
    codes "lte" ∷ codes "gt" ∷ codes "gte" ∷ codes "range" ∷ codes "oneOf" ∷ codes "valid" ∷
    []

-- the members of which `data` without a `url` has one
unfoldable pub data_parts : List (List ℕ)
data_parts =
    codes "name" ∷ codes "values" ∷
    []

-- three of them
abbrev pub source_words : List (List (List ℕ))
source_words = autosize_names ∷ format_names ∷ parse_names ∷ []

-- four of them
abbrev pub mark_words : List (List (List ℕ))
mark_words = mark_names ∷ align_names ∷ baseline_names ∷ interpolate_names ∷ []

-- seven of them
abbrev pub selection_words : List (List (List ℕ))
selection_words = bind_names ∷ select_names ∷ click_names ∷ drag_names ∷ event_names ∷ clear_names ∷ toggle_names ∷ []

-- five of them
abbrev pub field_words : List (List (List ℕ))
field_words = channel_names ∷ type_names ∷ operation_names ∷ window_names ∷ unit_names ∷ []

-- six of them
abbrev pub scale_words : List (List (List ℕ))
scale_words = scale_names ∷ scheme_names ∷ offset_names ∷ order_names ∷ sort_names ∷ sharing_names ∷ []

-- three of them
abbrev pub side_words : List (List (List ℕ))
side_words = x_side_names ∷ y_side_names ∷ side_names ∷ []

-- six of them
abbrev pub kind_words : List (List (List ℕ))
kind_words = view_kinds ∷ channel_kinds ∷ transform_kinds ∷ transform_others ∷ parameter_kinds ∷ test_kinds ∷ []

-- seven of them
abbrev pub part_words : List (List (List ℕ))
part_words = field_names ∷ condition_alone ∷ facet_parts ∷ comparisons ∷ filter_kinds ∷ filter_parts ∷ data_parts ∷ []

-- all of them
abbrev pub words : List (List (List ℕ))
words = source_words ++ mark_words ++ selection_words ++ field_words ++ scale_words ++ side_words ++ kind_words ++ part_words
