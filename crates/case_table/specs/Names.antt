-- The names of each table, in the order in which their codes count.
use Rattle.std.specs.Prelude.{ℕ, List, [], ◌∷◌, Option, position, codes, bytes_eq}

-- the code of a name: its index among the names of its table, counted from 0
abbrev pub index_of : List (List ℕ) → List ℕ → Option ℕ
index_of names name = position (λ n. bytes_eq n name) names

-- the operations of aggregates, then those that windows have besides
abbrev pub operations : List (List ℕ)
operations =
    codes "count" ∷ codes "valid" ∷ codes "missing" ∷ codes "distinct" ∷ codes "sum" ∷ codes "mean" ∷
    codes "average" ∷ codes "min" ∷ codes "max" ∷ codes "median" ∷ codes "q1" ∷ codes "q3" ∷ codes "row_number" ∷
    codes "rank" ∷ codes "dense_rank" ∷ codes "lag" ∷ codes "lead" ∷ codes "first_value" ∷ codes "last_value" ∷ []

-- the time units, then the same in UTC
abbrev pub time_units : List (List ℕ)
time_units =
    codes "year" ∷ codes "yearquarter" ∷ codes "quarter" ∷ codes "yearmonth" ∷ codes "month" ∷
    codes "yearmonthdate" ∷ codes "monthdate" ∷ codes "date" ∷ codes "day" ∷ codes "yearmonthdatehours" ∷
    codes "hours" ∷ codes "yearmonthdatehoursminutes" ∷ codes "hoursminutes" ∷ codes "minutes" ∷
    codes "yearmonthdatehoursminutesseconds" ∷ codes "seconds" ∷ codes "utcyear" ∷ codes "utcyearquarter" ∷
    codes "utcquarter" ∷ codes "utcyearmonth" ∷ codes "utcmonth" ∷ codes "utcyearmonthdate" ∷ codes "utcmonthdate" ∷
    codes "utcdate" ∷ codes "utcday" ∷ codes "utcyearmonthdatehours" ∷ codes "utchours" ∷
    codes "utcyearmonthdatehoursminutes" ∷ codes "utchoursminutes" ∷ codes "utcminutes" ∷
    codes "utcyearmonthdatehoursminutesseconds" ∷ codes "utcseconds" ∷ []

-- the builtins of expressions: of values, of numbers, of choices and texts, the parts of an instant, the same in UTC, instants
abbrev pub builtins : List (List ℕ)
builtins =
    codes "isValid" ∷ codes "isNumber" ∷ codes "isString" ∷ codes "isBoolean" ∷ codes "toNumber" ∷ codes "toString" ∷
    codes "toDate" ∷ codes "abs" ∷ codes "ceil" ∷ codes "floor" ∷ codes "sqrt" ∷ codes "round" ∷ codes "min" ∷
    codes "max" ∷ codes "clamp" ∷ codes "if" ∷ codes "inrange" ∷ codes "length" ∷ codes "bandspace" ∷ codes "year" ∷
    codes "quarter" ∷ codes "month" ∷ codes "date" ∷ codes "day" ∷ codes "hours" ∷ codes "minutes" ∷
    codes "seconds" ∷ codes "milliseconds" ∷ codes "utcyear" ∷ codes "utcquarter" ∷ codes "utcmonth" ∷
    codes "utcdate" ∷ codes "utcday" ∷ codes "utchours" ∷ codes "utcminutes" ∷ codes "utcseconds" ∷
    codes "utcmilliseconds" ∷ codes "utc" ∷ codes "datetime" ∷ []

-- the channels of Vega-Lite
abbrev pub channels : List (List ℕ)
channels =
    codes "x" ∷ codes "y" ∷ codes "x2" ∷ codes "y2" ∷ codes "color" ∷ codes "opacity" ∷ codes "size" ∷
    codes "shape" ∷ codes "detail" ∷ codes "text" ∷ codes "row" ∷ codes "column" ∷ codes "facet" ∷ []

-- the kinds of scales
abbrev pub scale_kinds : List (List ℕ)
scale_kinds =
    codes "linear" ∷ codes "time" ∷ codes "band" ∷ codes "point" ∷ codes "ordinal" ∷ codes "ramp" ∷ []
