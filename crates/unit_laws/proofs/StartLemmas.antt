-- The start of a unit of time as an expression is its start.
use Rattle.std.proofs.Common.{◌≡◌, ℕ, zero, suc, ◌+◌, ◌-◌, ◌*◌, ◌/◌, ◌%◌, ◌==◌, ◌≤◌, Bool, true, false, ◌&&◌, cond, Option, Some, None}
use Rattle.std.proofs.Common.{List, [], ◌∷◌, ◌++◌, map, refl, sym, ap, ◌∙◌, arith, int_le, ℤ, pos, negsuc, ◌+ℤ◌, ◌-ℤ◌, ◌*ℤ◌, ◌≤ℤ◌}
use Rattle.std.specs.Prelude.{slice_get, unsigned_abs, not}
use Rattle.std.specs.Int.{int_div_euclid, int_rem_euclid}
use Rattle.std.specs.List.{list_all}
use Rattle.std.specs.Option.{option_map, option_map_or, option_and_then}
use Rattle.std.proofs.lemmas.Bool.{and_parts, and_from}
use Rattle.std.proofs.lemmas.Int.{ints}
use Rattle.case_table.specs.declared.unit.PartOf.{PartOf}
use Rattle.case_table.specs.declared.unit.PartOf.TheVariants as part
use Rattle.case_table.specs.TimeUnits.{UnitRule, unit_rule, unit_rules}
use Rattle.fixed_num.specs.Number.{million, rounded, floor_quotient}
use Rattle.cell_value.specs.declared.cell.Cell.{Cell}
use Rattle.cell_value.specs.declared.cell.Cell.TheVariants.{Number}
use Rattle.cell_value.specs.Datum.{CellAt}
use Rattle.expr_syntax.specs.declared.expr.BinOp.{BinOp}
use Rattle.expr_syntax.specs.declared.expr.BinOp.TheVariants.{Add, Sub, Mul}
use Rattle.expr_syntax.specs.declared.expr.Expr.TheOpen as node
use Rattle.expr_syntax.specs.declared.expr.Expr.TheVariants as expr
use Rattle.expr_syntax.specs.declared.expr.Expr.{Expr, fold-roll-Expr}
use Rattle.expr_eval.specs.Builtins.{part_in, instant}
use Rattle.expr_eval.specs.Numbers.{number_or_null}
use Rattle.expr_eval.specs.Operations.{binary_of}
use Rattle.expr_eval.specs.Table.{called, builtin_table}
use Rattle.expr_eval.specs.Value.{value_here, value_of}
use Rattle.expr_eval.specs.Values.{Values}
use Rattle.time_calc.specs.declared.calendar.Date.{Date}
use Rattle.time_calc.specs.Boundaries.{date_at}
use Rattle.time_calc.specs.Calendar.{day_of_date, weekday_of}
use Rattle.time_calc.specs.Datetime.{is_whole, whole_of, first_day, first_of_month, instant_of_wholes, instant_of, instant_after, milliseconds_of}
use Rattle.time_calc.specs.Instants.{instant_at, instant_number, instant_in_range, is_in_range, stands_for_instant, first_instant}
use Rattle.time_calc.specs.Instants.{last_instant, day_length, day_of_instant, time_of_instant}
use Rattle.time_calc.specs.Parts.{part_of}
use Rattle.time_calc.specs.TimeUnits.{keeps, kept_or, first_of_quarter, kept_month, kept_days, start_of}
use Rattle.time_calc.proofs.BoundaryUnits.{IsInstant, weekday_at_most_6}
use Rattle.time_calc.proofs.DatetimeLemmas.{years_1_to_9998}
use Rattle.time_calc.proofs.TimeUnitLemmas.{IsDateInRange, date_in_range, month_in_range, start_is_instant}
use Rattle.unit_plan.specs.declared.codes.TheConstants.{YEAR, QUARTER, MONTH, DATE, DAY, HOURS, MINUTES, SECONDS, DATETIME}
use Rattle.plan_kit.specs.Literals.{whole}
use Rattle.unit_plan.specs.Starts.{part_call, quarter_month, weekday_date, year_kept, month_kept, date_kept, time_kept, day_parts}
use Rattle.unit_plan.specs.Starts.{time_parts, start_expr, start_by}
use Rattle.unit_laws.specs.StartLaws.{StartsAgree}

-- ---- the numbers of a start

-- the parts of a date and a time that a start is made of, each a whole number
abbrev year_of : List PartOf → Date → ℕ
year_of kept d = kept_or kept part.Year d.year 2012

abbrev month_of : List PartOf → Date → ℕ
month_of kept d = kept_or kept part.Month (d.month - 1) (kept_or kept part.Quarter ((d.month - 1) / 3 * 3) 0)

abbrev date_of : List PartOf → Date → ℕ → ℕ
date_of kept d weekday = kept_or kept part.Date d.day (kept_or kept part.Day (1 + weekday) 1)

month_is : (kept : List PartOf) (d : Date) → 1 ≤ d.month → month_of kept d + 1 ≡ (kept_month kept d).month
month_is kept d from = by (keeps kept part.Month) (keeps kept part.Quarter)
  where
    by : (m q : Bool) → cond m (d.month - 1) (cond q ((d.month - 1) / 3 * 3) 0) + 1 ≡ cond m d.month (cond q (first_of_quarter d.month) 1)
    by true q = omega (arith, from)
    by false true = refl
    by false false = refl

date_is : (kept : List PartOf) (d : Date) (weekday : ℕ) → 1 ≤ d.day → date_of kept d weekday ≡ kept_days kept d weekday + 1
date_is kept d weekday from = by (keeps kept part.Date) (keeps kept part.Day)
  where
    by : (a w : Bool) → cond a d.day (cond w (1 + weekday) 1) ≡ cond a (d.day - 1) (cond w weekday 0) + 1
    by true w = omega (arith, from)
    by false true = omega arith
    by false false = refl

-- ---- datetime of whole numbers

is_whole_of : (k : ℕ) → is_whole (pos (k * million)) ≡ true
is_whole_of k = let z : k * million % million ≡ 0 = omega arith in ap (λ r. r == 0) z

whole_is : (k : ℕ) → whole_of (pos (k * million)) ≡ pos k
unfolding whole_of
whole_is k = let same : k * million / million ≡ k = omega arith in ap pos same

le_test : (a b : ℤ) → a ≤ℤ b → int_le a b ≡ true
le_test a b h = by (int_le a b) refl
  where
    by : (t : Bool) → int_le a b ≡ t → int_le a b ≡ true
    by true e = e
    by false e = absurd (omega (arith, ints, h))

within_range : (z : ℤ) → IsInstant z → is_in_range z ≡ true
within_range z h = and_from _ _ (le_test first_instant z h.low) (le_test z last_instant h.high)

module _ (y m d h mi s : ℕ) (year_low : 1 ≤ y) (year_high : y ≤ 9998) (month_high : m ≤ 11) where
  first : first_of_month (pos y) (pos m) ≡ Some (day_of_date (record { year = y; month = m + 1; day = 1 }))
  first =
      let none : int_div_euclid (pos m) (pos 12) ≡ pos 0 = omega (arith, ints, month_high) in
      let rest : unsigned_abs (int_rem_euclid (pos m) (pos 12)) ≡ m = omega (arith, ints, month_high) in
      let same : pos y +ℤ int_div_euclid (pos m) (pos 12) ≡ pos y = omega (arith, ints, none) in
      (λ j. first_day (same j) (rest j + 1)) ∙ years_1_to_9998 y (m + 1) (omega (arith, month_high)) year_low year_high

  wholes : instant_of (pos (y * million)) (pos (m * million)) (pos (d * million)) (pos (h * million)) (pos (mi * million)) (pos (s * million)) (pos 0)
      ≡ instant_of_wholes (pos y) (pos m) (pos d) (pos h) (pos mi) (pos s) (pos 0)
  wholes =
      (λ j. cond (is_whole_of y j
      && (is_whole_of m j && (is_whole_of d j && (is_whole_of h j && (is_whole_of mi j && (is_whole_of s j && (is_whole_of 0 j && true)))))))
      (instant_of_wholes (whole_is y j) (whole_is m j) (whole_is d j) (whole_is h j) (whole_is mi j) (whole_is s j) (whole_is 0 j)) None)

-- the day and the time of day that parts give
sum_is : (first : ℤ) (days date hours minutes seconds rest : ℕ) → date ≡ days + 1 → rest ≡ 0
    → instant_after first (pos date) (milliseconds_of (pos hours) (pos minutes) (pos seconds) (pos 0))
    ≡ (first +ℤ pos days) *ℤ pos day_length +ℤ pos (hours * 3600000 + minutes * 60000 + seconds * 1000 + rest)
sum_is first days date hours minutes seconds rest same none =
    let day : first +ℤ pos date -ℤ pos 1 ≡ first +ℤ pos days = omega (arith, ints, same) in
    let count : (hours * 3600 + minutes * 60 + seconds) * 1000 + 0 ≡ hours * 3600000 + minutes * 60000 + seconds * 1000 + rest = omega (arith, none) in
    λ j. day j *ℤ pos day_length +ℤ pos (count j)

-- ---- parts of an instant as expressions

module _ (row : CellAt) (values : Values) (field : List ℕ) where
  abbrev pub value : Expr → Option Cell
  value = value_of row values

  value-Number : (n : ℤ) → value (expr.Number n) ≡ Some (Number n)
  value-Number n = ap value (sym (expr.rolls-Number n)) ∙ fold-roll-Expr (Option Cell) (value_here row values) (node.Number n)

  value-Field : (name : List ℕ) → value (expr.Field name) ≡ Some (row name)
  value-Field name = ap value (sym (expr.rolls-Field name)) ∙ fold-roll-Expr (Option Cell) (value_here row values) (node.Field name)

  pub value-Call : (code : ℕ) (args : List Expr) → value (expr.Call code args) ≡ called code (map value args)
  value-Call code args = ap value (sym (expr.rolls-Call code args)) ∙ fold-roll-Expr (Option Cell) (value_here row values) (node.Call code args)

  pub value-Binary : (op : BinOp) (a b : Expr) → value (expr.Binary op a b) ≡ binary_of op (value a) (value b)
  value-Binary op a b = ap value (sym (expr.rolls-Binary op a b)) ∙ fold-roll-Expr (Option Cell) (value_here row values) (node.Binary op a b)

  pub value-whole : (n : ℕ) → value (whole n) ≡ Some (Number (pos (n * million)))
  value-whole n = value-Number (pos (n * million))

  pub value-part : (code : ℕ) → value (part_call code field) ≡ called code (Some (row field) ∷ [])
  value-part code = value-Call code (expr.Field field ∷ []) ∙ ap (λ v. called code (v ∷ [])) (value-Field field)

-- what the builtins of parts give
pub called_part : (c : Cell) → (called YEAR (Some c ∷ []) ≡ part_in part.Year (c ∷ [])) × (called QUARTER (Some c ∷ []) ≡ part_in part.Quarter (c ∷ []))
    × (called MONTH (Some c ∷ []) ≡ part_in part.Month (c ∷ [])) × (called DATE (Some c ∷ []) ≡ part_in part.Date (c ∷ []))
    × (called DAY (Some c ∷ []) ≡ part_in part.Day (c ∷ [])) × (called HOURS (Some c ∷ []) ≡ part_in part.Hours (c ∷ []))
    × (called MINUTES (Some c ∷ []) ≡ part_in part.Minutes (c ∷ [])) × (called SECONDS (Some c ∷ []) ≡ part_in part.Seconds (c ∷ []))
unfolding builtin_table
called_part c = (refl, refl, refl, refl, refl, refl, refl, refl)

called_datetime : (a b c d e f : ℤ)
    → called DATETIME (Some (Number a) ∷ Some (Number b) ∷ Some (Number c) ∷ Some (Number d) ∷ Some (Number e) ∷ Some (Number f) ∷ [])
    ≡ Some (number_or_null (instant_of a b c d e f (pos 0)))
unfolding builtin_table
called_datetime a b c d e f = refl

-- a number of an instant has the part
the_part : (p : PartOf) (n i : ℤ) → instant_at n ≡ Some i → part_in p (Number n ∷ []) ≡ Some (Number (pos (part_of i p * million)))
the_part p n i at = ap (λ o. Some (number_or_null (option_map (λ instant. pos (part_of instant p) *ℤ pos million) o))) at

-- the first month of a quarter, and a weekday in January 2012
quarters : (k : ℕ) → k ≤ 3
    → binary_of Mul (binary_of Sub (Some (Number (pos ((k + 1) * million)))) (Some (Number (pos (1 * million))))) (Some (Number (pos (3 * million))))
    ≡ Some (Number (pos (k * 3 * million)))
unfolding rounded floor_quotient
quarters zero few = refl
quarters (suc zero) few = refl
quarters (suc (suc zero)) few = refl
quarters (suc (suc (suc zero))) few = refl
quarters (suc (suc (suc (suc k)))) few = absurd (omega arith)

weekdays : (k : ℕ) → k ≤ 6 → binary_of Add (Some (Number (pos (1 * million)))) (Some (Number (pos (k * million)))) ≡ Some (Number (pos ((1 + k) * million)))
weekdays zero few = refl
weekdays (suc zero) few = refl
weekdays (suc (suc zero)) few = refl
weekdays (suc (suc (suc zero))) few = refl
weekdays (suc (suc (suc (suc zero)))) few = refl
weekdays (suc (suc (suc (suc (suc zero))))) few = refl
weekdays (suc (suc (suc (suc (suc (suc zero)))))) few = refl
weekdays (suc (suc (suc (suc (suc (suc (suc k))))))) few = absurd (omega arith)

-- ---- the whole start

module _ (row : CellAt) (values : Values) (field : List ℕ) (kept : List PartOf) (n i : ℤ)
    (is : row field ≡ Number n) (at : instant_at n ≡ Some i) (inside : IsInstant i) where
  abbrev given : Expr → Option Cell
  given = value row values field

  choose : (b : Bool) (x y : Expr) (k l : ℕ) → given x ≡ Some (Number (pos (k * million))) → given y ≡ Some (Number (pos (l * million)))
      → given (cond b x y) ≡ Some (Number (pos (cond b k l * million)))
  choose true x y k l this other = this
  choose false x y k l this other = other

  told : (code : ℕ) (p : PartOf) → called code (Some (row field) ∷ []) ≡ part_in p (row field ∷ [])
      → given (part_call code field) ≡ Some (Number (pos (part_of i p * million)))
  told code p table = value-part row values field code ∙ table ∙ ap (λ c. part_in p (c ∷ [])) is ∙ the_part p n i at

  known : IsDateInRange (date_at i)
  known = date_in_range i inside

  year : given (year_kept kept field) ≡ Some (Number (pos (year_of kept (date_at i) * million)))
  year = choose (keeps kept part.Year) (part_call YEAR field) (whole 2012) (date_at i).year 2012
      (told YEAR part.Year (called_part (row field)).0) (value-whole row values field 2012)

  quarter : given (quarter_month field) ≡ Some (Number (pos (((date_at i).month - 1) / 3 * 3 * million)))
  quarter =
      let high = known.has.month_high in
      let less : given (expr.Binary Sub (part_call QUARTER field) (whole 1))
      ≡ binary_of Sub (Some (Number (pos ((((date_at i).month - 1) / 3 + 1) * million)))) (Some (Number (pos (1 * million)))) =
      value-Binary row values field Sub (part_call QUARTER field) (whole 1)
      ∙ (λ j. binary_of Sub (told QUARTER part.Quarter (called_part (row field)).1 j) (value-whole row values field 1 j)) in
      value-Binary row values field Mul (expr.Binary Sub (part_call QUARTER field) (whole 1)) (whole 3)
      ∙ (λ j. binary_of Mul (less j) (value-whole row values field 3 j))
      ∙ quarters (((date_at i).month - 1) / 3) (omega (arith, high))

  month : given (month_kept kept field) ≡ Some (Number (pos (month_of kept (date_at i) * million)))
  month = choose (keeps kept part.Month) (part_call MONTH field) _ ((date_at i).month - 1) _ (told MONTH part.Month (called_part (row field)).2)
      (choose (keeps kept part.Quarter) (quarter_month field) (whole 0) (((date_at i).month - 1) / 3 * 3) 0 quarter (value-whole row values field 0))

  weekday : given (weekday_date field) ≡ Some (Number (pos ((1 + weekday_of (day_of_instant i)) * million)))
  weekday =
      value-Binary row values field Add (whole 1) (part_call DAY field)
      ∙ (λ j. binary_of Add (value-whole row values field 1 j) (told DAY part.Day (called_part (row field)).4 j))
      ∙ weekdays (weekday_of (day_of_instant i)) (weekday_at_most_6 (day_of_instant i))

  date : given (date_kept kept field) ≡ Some (Number (pos (date_of kept (date_at i) (weekday_of (day_of_instant i)) * million)))
  date = choose (keeps kept part.Date) (part_call DATE field) _ (date_at i).day _ (told DATE part.Date (called_part (row field)).3)
      (choose (keeps kept part.Day) (weekday_date field) (whole 1) (1 + weekday_of (day_of_instant i)) 1 weekday (value-whole row values field 1))

  clock : (p : PartOf) (code k : ℕ) → given (part_call code field) ≡ Some (Number (pos (k * million)))
      → given (time_kept kept p code field) ≡ Some (Number (pos (kept_or kept p k 0 * million)))
  clock p code k first = choose (keeps kept p) (part_call code field) (whole 0) k 0 first (value-whole row values field 0)

  abbrev the_year : ℕ
  the_year = year_of kept (date_at i)

  abbrev the_month : ℕ
  the_month = month_of kept (date_at i)

  abbrev the_date : ℕ
  the_date = date_of kept (date_at i) (weekday_of (day_of_instant i))

  abbrev the_hours : ℕ
  the_hours = kept_or kept part.Hours (time_of_instant i).hours 0

  abbrev the_minutes : ℕ
  the_minutes = kept_or kept part.Minutes (time_of_instant i).minutes 0

  abbrev the_seconds : ℕ
  the_seconds = kept_or kept part.Seconds (time_of_instant i).seconds 0

  hours : given (time_kept kept part.Hours HOURS field) ≡ Some (Number (pos (the_hours * million)))
  hours = clock part.Hours HOURS (time_of_instant i).hours (told HOURS part.Hours (called_part (row field)).5)

  minutes : given (time_kept kept part.Minutes MINUTES field) ≡ Some (Number (pos (the_minutes * million)))
  minutes = clock part.Minutes MINUTES (time_of_instant i).minutes (told MINUTES part.Minutes (called_part (row field)).6)

  seconds : given (time_kept kept part.Seconds SECONDS field) ≡ Some (Number (pos (the_seconds * million)))
  seconds = clock part.Seconds SECONDS (time_of_instant i).seconds (told SECONDS part.Seconds (called_part (row field)).7)

  -- the parts, each a whole number
  parts : given (start_expr kept field)
      ≡ Some (number_or_null (instant_of (pos (the_year * million)) (pos (the_month * million)) (pos (the_date * million)) (pos (the_hours * million))
      (pos (the_minutes * million)) (pos (the_seconds * million)) (pos 0)))
  parts =
      value-Call row values field DATETIME (day_parts kept field ++ time_parts kept field)
      ∙ (λ j. called DATETIME (year j ∷ month j ∷ date j ∷ hours j ∷ minutes j ∷ seconds j ∷ []))
      ∙ called_datetime _ _ _ _ _ _

  same_month : the_month + 1 ≡ (kept_month kept (date_at i)).month
  same_month = month_is kept (date_at i) known.has.month_low

  few_months : the_month ≤ 11
  few_months =
      let high = (month_in_range kept (date_at i) known).has.month_high in
      omega (arith, high, same_month)

  same_date : the_date ≡ kept_days kept (date_at i) (weekday_of (day_of_instant i)) + 1
  same_date = date_is kept (date_at i) (weekday_of (day_of_instant i)) known.has.day_low

  from_parts : instant_of (pos (the_year * million)) (pos (the_month * million)) (pos (the_date * million)) (pos (the_hours * million))
      (pos (the_minutes * million)) (pos (the_seconds * million)) (pos 0)
      ≡ instant_in_range (instant_after (day_of_date (kept_month kept (date_at i))) (pos the_date)
      (milliseconds_of (pos the_hours) (pos the_minutes) (pos the_seconds) (pos 0)))
  from_parts =
      let in_month = month_in_range kept (date_at i) known in
      wholes the_year the_month the_date the_hours the_minutes the_seconds in_month.low in_month.high few_months
      ∙ ap (option_and_then
      (λ day. instant_in_range (instant_after day (pos the_date) (milliseconds_of (pos the_hours) (pos the_minutes) (pos the_seconds) (pos 0)))))
      (first the_year the_month the_date the_hours the_minutes the_seconds in_month.low in_month.high few_months
      ∙ (λ j. Some (day_of_date (record { year = the_year; month = same_month j; day = 1 }))))

  -- where milliseconds aren't kept, that is the start
  starts : keeps kept part.Milliseconds ≡ false → given (start_expr kept field) ≡ Some (Number (instant_number (start_of kept i)))
  unfolding start_of
  starts none =
      let no_rest : kept_or kept part.Milliseconds (time_of_instant i).milliseconds 0 ≡ 0 = ap (λ b. cond b (time_of_instant i).milliseconds 0) none in
      let sum : instant_after (day_of_date (kept_month kept (date_at i))) (pos the_date)
      (milliseconds_of (pos the_hours) (pos the_minutes) (pos the_seconds) (pos 0)) ≡ start_of kept i =
      sum_is (day_of_date (kept_month kept (date_at i))) _ the_date the_hours the_minutes the_seconds _ same_date no_rest in
      parts ∙ ap (λ o. Some (number_or_null o)) (from_parts ∙ ap instant_in_range sum
      ∙ ap (λ b. cond b (Some (instant_number (start_of kept i))) None) (within_range (start_of kept i) (start_is_instant kept i inside)))

-- ---- the units

pub by_test : (p : UnitRule → Bool) (rules : List UnitRule) (k : ℕ) (rule : UnitRule) → list_all p rules ≡ true → slice_get rules k ≡ Some rule → p rule ≡ true
by_test p [] k rule all e = absurd cc
by_test p (r ∷ rules) zero rule all e = let same : r ≡ rule = cc in ap p (sym same) ∙ (and_parts _ _ all).0
by_test p (r ∷ rules) (suc k) rule all e = by_test p rules k rule (and_parts _ _ all).1 e

-- no unit keeps milliseconds
no_milliseconds : (code : ℕ) (rule : UnitRule) → unit_rule code ≡ Some rule → keeps rule.kept part.Milliseconds ≡ false
no_milliseconds code rule e =
    by (keeps rule.kept part.Milliseconds) (by_test (λ r. not (keeps r.kept part.Milliseconds)) (unit_rules ++ unit_rules) code rule refl e)
  where
    by : (b : Bool) → not b ≡ true → b ≡ false
    by true e = absurd cc
    by false e = refl

some_is : (o : Option ℤ) (a b : ℤ) → o ≡ Some a → o ≡ Some b → a ≡ b
some_is o a b first second = cc

none_is : (o : Option ℤ) (a : ℤ) → o ≡ None → o ≡ Some a → ⊥
none_is o a none some = cc

inside_of : (n i : ℤ) → int_div_euclid n (pos million) ≡ i → int_le (instant_number first_instant) n ≡ true
    → int_le n (instant_number last_instant) ≡ true → IsInstant i
inside_of (pos k) i is low high = record { low = omega (arith, ints, is); high = omega (arith, ints, is, high) }
inside_of (negsuc k) i is low high = record { low = omega (arith, ints, is, low); high = omega (arith, ints, is) }

-- a number that stands for an instant stands for one in range
at_is_inside : (n i : ℤ) → instant_at n ≡ Some i → IsInstant i
at_is_inside n i at = by (stands_for_instant n) refl
  where
    by : (b : Bool) → stands_for_instant n ≡ b → IsInstant i
    by true e =
        let here : int_div_euclid n (pos million) ≡ i = some_is (instant_at n) _ _ (ap (λ t. cond t (Some (int_div_euclid n (pos million))) None) e) at in
        let both = and_parts _ _ e in
        let low = both.0 in let high = both.1 in
        inside_of n i here low high
    by false e = absurd (none_is (instant_at n) i (ap (λ t. cond t (Some (int_div_euclid n (pos million))) None) e) at)

pub starts_agree : StartsAgree
unfolding start_by
starts_agree row values code rule field n i known is at =
    ap (λ o. value_of row values (option_map_or (λ (r : UnitRule). start_expr r.kept field) o expr.Null)) known
    ∙ starts row values field rule.kept n i is at (at_is_inside n i at) (no_milliseconds code rule known)
