-- The start of a unit of time at the instant in a field, as an expression: the parts that the unit keeps, and in place of the others those of
-- 2012-01-01T00:00:00Z. A quarter begins with its first month. The weekday alone gives a day of January 2012, which begins on a Sunday.
-- A cell that is no instant gives null, as each unit keeps a part.
use Rattle.std.specs.Prelude.{ℕ, List, [], ◌∷◌, ◌++◌, if◌then◌else◌}
use Rattle.std.specs.Option.{option_map_or}
use Rattle.case_table.specs.declared.unit.PartOf.{PartOf}
use Rattle.case_table.specs.declared.unit.PartOf.TheVariants as part
use Rattle.case_table.specs.TimeUnits.{UnitRule, unit_rule}
use Rattle.expr_syntax.specs.declared.expr.BinOp.TheVariants.{Add, Sub, Mul}
use Rattle.expr_syntax.specs.declared.expr.Expr.{Expr}
use Rattle.expr_syntax.specs.declared.expr.Expr.TheVariants as expr
use Rattle.time_calc.specs.TimeUnits.{keeps}
use Rattle.unit_plan.specs.declared.codes.TheConstants.{YEAR, QUARTER, MONTH, DATE, DAY, HOURS, MINUTES, SECONDS, DATETIME}
use Rattle.plan_kit.specs.Literals.{whole}

-- a part of the instant in a field, by the code of its builtin
abbrev pub part_call : ℕ → List ℕ → Expr
part_call code field = expr.Call code (expr.Field field ∷ [])

-- the first month of the quarter, months counted from 0
abbrev pub quarter_month : List ℕ → Expr
quarter_month field = expr.Binary Mul (expr.Binary Sub (part_call QUARTER field) (whole 1)) (whole 3)

-- the day of January 2012 that falls on the weekday
abbrev pub weekday_date : List ℕ → Expr
weekday_date field = expr.Binary Add (whole 1) (part_call DAY field)

abbrev pub year_kept : List PartOf → List ℕ → Expr
year_kept kept field = if keeps kept part.Year then part_call YEAR field else whole 2012

abbrev pub month_kept : List PartOf → List ℕ → Expr
month_kept kept field =
    if keeps kept part.Month then part_call MONTH field else (if keeps kept part.Quarter then quarter_month field else whole 0)

abbrev pub date_kept : List PartOf → List ℕ → Expr
date_kept kept field =
    if keeps kept part.Date then part_call DATE field else (if keeps kept part.Day then weekday_date field else whole 1)

abbrev pub time_kept : List PartOf → PartOf → ℕ → List ℕ → Expr
time_kept kept p code field = if keeps kept p then part_call code field else whole 0

-- year, month and day
abbrev pub day_parts : List PartOf → List ℕ → List Expr
day_parts kept field = year_kept kept field ∷ month_kept kept field ∷ date_kept kept field ∷ []

-- hours, minutes and seconds
abbrev pub time_parts : List PartOf → List ℕ → List Expr
time_parts kept field =
    time_kept kept part.Hours HOURS field ∷ time_kept kept part.Minutes MINUTES field ∷ time_kept kept part.Seconds SECONDS field ∷ []

abbrev pub start_expr : List PartOf → List ℕ → Expr
start_expr kept field = expr.Call DATETIME (day_parts kept field ++ time_parts kept field)

-- the same by the code of the unit; a code that is none's gives null
unfoldable pub start_by : ℕ → List ℕ → Expr
start_by code field = option_map_or (λ (rule : UnitRule). start_expr rule.kept field) (unit_rule code) expr.Null
