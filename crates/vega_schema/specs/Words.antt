-- The lists of names, in the order of their codes.
use Rattle.std.specs.Prelude.{ℕ, List, [], ◌∷◌, ◌++◌, codes}

-- what `autosize` may say
unfoldable pub autosize_names : List (List ℕ)
autosize_names =
    codes "pad" ∷
    []

-- the types of data files
unfoldable pub format_names : List (List ℕ)
format_names =
    codes "json" ∷ codes "csv" ∷
    []

-- how the texts of a field are read
unfoldable pub parse_names : List (List ℕ)
parse_names =
    codes "number" ∷ codes "boolean" ∷ codes "string" ∷ codes "date" ∷
    []

-- the operations of aggregates
unfoldable pub operation_names : List (List ℕ)
operation_names =
    codes "count" ∷ codes "valid" ∷ codes "missing" ∷ codes "distinct" ∷ codes "sum" ∷ codes "mean" ∷
    codes "average" ∷ codes "min" ∷ codes "max" ∷ codes "median" ∷ codes "q1" ∷ codes "q3" ∷
    []

-- the operations of windows
unfoldable pub window_names : List (List ℕ)
window_names =
    codes "count" ∷ codes "valid" ∷ codes "missing" ∷ codes "distinct" ∷ codes "sum" ∷ codes "mean" ∷
    codes "average" ∷ codes "min" ∷ codes "max" ∷ codes "median" ∷ codes "q1" ∷ codes "q3" ∷ codes "row_number" ∷
    codes "rank" ∷ codes "dense_rank" ∷ codes "lag" ∷ codes "lead" ∷ codes "first_value" ∷ codes "last_value" ∷
    []

-- the time units
unfoldable pub unit_names : List (List ℕ)
unit_names =
    codes "year" ∷ codes "yearquarter" ∷ codes "quarter" ∷ codes "yearmonth" ∷ codes "month" ∷
    codes "yearmonthdate" ∷ codes "monthdate" ∷ codes "date" ∷ codes "day" ∷ codes "yearmonthdatehours" ∷
    codes "hours" ∷ codes "yearmonthdatehoursminutes" ∷ codes "hoursminutes" ∷ codes "minutes" ∷
    codes "yearmonthdatehoursminutesseconds" ∷ codes "seconds" ∷ codes "utcyear" ∷ codes "utcyearquarter" ∷
    codes "utcquarter" ∷ codes "utcyearmonth" ∷ codes "utcmonth" ∷ codes "utcyearmonthdate" ∷ codes "utcmonthdate" ∷
    codes "utcdate" ∷ codes "utcday" ∷ codes "utcyearmonthdatehours" ∷ codes "utchours" ∷
    codes "utcyearmonthdatehoursminutes" ∷ codes "utchoursminutes" ∷ codes "utcminutes" ∷
    codes "utcyearmonthdatehoursminutesseconds" ∷ codes "utcseconds" ∷
    []

-- where stacks begin
unfoldable pub offset_names : List (List ℕ)
offset_names =
    codes "zero" ∷ codes "normalize" ∷ codes "center" ∷
    []

-- the directions of orders
unfoldable pub order_names : List (List ℕ)
order_names =
    codes "ascending" ∷ codes "descending" ∷
    []

-- the ranges of continuous scales
unfoldable pub continuous_names : List (List ℕ)
continuous_names =
    codes "width" ∷ codes "height" ∷ codes "ramp" ∷
    []

-- the ranges of scales with bands or points
unfoldable pub discrete_names : List (List ℕ)
discrete_names =
    codes "width" ∷ codes "height" ∷
    []

-- the ranges of ordinal scales
unfoldable pub ordinal_names : List (List ℕ)
ordinal_names =
    codes "category" ∷ codes "ramp" ∷ codes "symbol" ∷
    []

-- the event selectors
unfoldable pub event_names : List (List ℕ)
event_names =
    codes "click" ∷ codes "click[event.shiftKey]" ∷ codes "dblclick" ∷ codes "[mousedown, mouseup] > mousemove" ∷
    []

-- where the headers of a facet stand
unfoldable pub header_names : List (List ℕ)
header_names =
    codes "row" ∷ codes "column" ∷
    []

-- the sides of a plot
unfoldable pub side_names : List (List ℕ)
side_names =
    codes "left" ∷ codes "right" ∷ codes "top" ∷ codes "bottom" ∷
    []

-- the panels in which an axis stands alone
unfoldable pub edge_names : List (List ℕ)
edge_names =
    codes "last-row" ∷ codes "first-column" ∷
    []

-- the ranges of scales of any type
unfoldable pub range_names : List (List ℕ)
range_names =
    codes "width" ∷ codes "height" ∷ codes "ramp" ∷ codes "category" ∷ codes "symbol" ∷
    []

-- three of them
abbrev pub data_words : List (List (List ℕ))
data_words = autosize_names ∷ format_names ∷ parse_names ∷ []

-- three of them
abbrev pub operation_words : List (List (List ℕ))
operation_words = operation_names ∷ window_names ∷ unit_names ∷ []

-- three of them
abbrev pub order_words : List (List (List ℕ))
order_words = offset_names ∷ order_names ∷ continuous_names ∷ []

-- three of them
abbrev pub scale_words : List (List (List ℕ))
scale_words = discrete_names ∷ ordinal_names ∷ event_names ∷ []

-- four of them
abbrev pub side_words : List (List (List ℕ))
side_words = header_names ∷ side_names ∷ edge_names ∷ range_names ∷ []

-- all of them
abbrev pub words : List (List (List ℕ))
words = data_words ++ operation_words ++ order_words ++ scale_words ++ side_words
