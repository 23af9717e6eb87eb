-- The last boundary up to an instant, and the first after it, for each unit.
use Rattle.std.proofs.Common.{◌≡◌, ℕ, ◌+◌, ◌-◌, ◌*◌, ◌/◌, ◌%◌, ◌<◌, ◌≤◌, ◌==◌, ◌&&◌, min, Bool, true, false, cond, int_le, int_lt}
use Rattle.std.proofs.Common.{if◌then◌else◌, Option, Some, None, option_map, refl, sym, ap, ◌∙◌, subst, inl, inr, arith, ℤ, pos, negsuc}
use Rattle.std.proofs.Common.{neg_ℤ, ◌≤ℤ◌, ◌+ℤ◌, ◌-ℤ◌, ◌*ℤ◌, unsigned_abs}
use Rattle.std.specs.Int.{int_div_euclid, int_rem_euclid, int_max}
use Rattle.std.proofs.Math.Nat.{zero-mod}
use Rattle.std.proofs.lemmas.Bool.{and_parts, and_from, eqb-true, cases_lt}
use Rattle.std.proofs.lemmas.Int.{ints}
use Rattle.case_table.specs.declared.unit.Unit.{Unit}
use Rattle.case_table.specs.declared.unit.Unit.TheVariants.{Millisecond, Second, Minute, Hour, Day, Week, Month, Quarter, Year}
use Rattle.time_calc.specs.declared.boundaries.Side.TheVariants.{Before, After}
use Rattle.time_calc.specs.declared.calendar.Date.{Date}
use Rattle.time_calc.specs.Calendar.{is_leap, days_of_month, days_of_months, days_before_year, date_of_count, weekday_of}
use Rattle.time_calc.specs.Instants.{first_instant, last_instant, day_of_instant, instant_number}
use Rattle.time_calc.specs.Boundaries.{is_boundary, begins_day, last_boundary, IsLastBoundary, Truncates, Follows}
use Rattle.time_calc.specs.NextBoundary.{boundary_at, boundary_of_week, truncated, next_boundary}
use Rattle.time_calc.proofs.CalendarLemmas.{months_grow, years_grow}
use Rattle.time_calc.proofs.DatetimeLemmas.{year_1}
use Rattle.time_calc.proofs.BoundaryFrame.{IsLastOf, IsFirstOf, last_in, first_in, not_true}
use Rattle.time_calc.proofs.BoundaryClocks.{moment_of, rest_small, last_second, first_second, last_minute, first_minute, last_hour, first_hour}
use Rattle.time_calc.proofs.BoundaryMilliseconds.{last_millisecond, first_millisecond}
use Rattle.time_calc.proofs.BoundaryDates.{count_of_day, day_at, day_test, month_test, quarter_test, year_test, days_divide_month}
use Rattle.time_calc.proofs.BoundaryDates.{days_end_month, months_divide_year, months_end_year, quarters_divide_year, quarters_end_year}
use Rattle.time_calc.proofs.BoundaryDates.{years_divide_days, StandsIn, stands}
use Rattle.time_calc.proofs.BoundaryDays.{year_of_day, last_at_midnight, first_at_midnight, last_same, first_same, and_joined, and_joined_twice}

-- an instant is one of those in range
pub record IsInstant (i : ℤ) : Type 0 where
  pub low : first_instant ≤ℤ i
  pub high : i ≤ℤ last_instant

low_day : (i : ℤ) → IsInstant i → neg_ℤ (pos 719162) ≤ℤ day_of_instant i
low_day i in_range = let is = moment_of i in let small = rest_small i in let low = in_range.low in omega (arith, ints, is, small, low)

high_day : (i : ℤ) → IsInstant i → day_of_instant i ≤ℤ pos 2932531
high_day i in_range = let is = moment_of i in let small = rest_small i in let high = in_range.high in omega (arith, ints, is, small, high)

pub here : (i : ℤ) → IsInstant i → StandsIn (day_of_instant i) (date_of_count (count_of_day (day_of_instant i)))
here i in_range = let low = low_day i in_range in stands (day_of_instant i) (omega (arith, ints, low))

pub year_inside : (i : ℤ) → IsInstant i → (date_of_count (count_of_day (day_of_instant i))).year ≤ 9998
unfolding count_of_day
year_inside i in_range = year_of_day (day_of_instant i) (low_day i in_range) (high_day i in_range)

pub year_from_1 : (i : ℤ) → IsInstant i → 1 ≤ (date_of_count (count_of_day (day_of_instant i))).year
year_from_1 i in_range =
    let at = here i in_range in
    let low = low_day i in_range in let high = at.in_year in
    elim (cases_lt (date_of_count (count_of_day (day_of_instant i))).year 1) as (λ w. 1 ≤ (date_of_count (count_of_day (day_of_instant i))).year) [
      | inl lt ↦ absurd (omega (arith, ints, low, high, year_1, years_grow ((date_of_count (count_of_day (day_of_instant i))).year + 1) 1 (omega (arith, lt))))
      | inr ge ↦ ge
    ]

late_year : days_before_year 10000 ≡ 3652425
unfolding days_before_year
late_year = refl

-- ---- days

day_same : (n : ℕ) (j : ℤ) → (begins_day j && day_test n (date_of_count (count_of_day (day_of_instant j)))) ≡ is_boundary Day n j
unfolding is_boundary count_of_day
day_same n j = refl

last_day : (n : ℕ) (i : ℤ) → 0 < n → IsInstant i → IsLastOf (is_boundary Day n) i (boundary_at Before Day n i)
unfolding count_of_day
last_day n i some in_range =
    let q : ℤ = day_of_instant i in
    let d : Date = date_of_count (count_of_day q) in
    let y : ℕ = d.year in let m : ℕ = d.month - 1 in
    let at = here i in_range in
    let inside = year_inside i in_range in
    let below = at.month_below in let is = at.from_year in let month = at.in_month in let year = at.in_year in
    let found = last_in (λ day. day_test n (date_of_count (count_of_day day))) (λ k. day_at (days_before_year y + days_of_months (is_leap y) m + k)) n
    (days_of_month (is_leap y) (m + 1)) (days_divide_month y m n at.month_below) some
    (d.day - 1) at.day_below q (omega (arith, ints, is)) (omega (arith, ints, is)) in
    last_same _ _ i _ (day_same n) (last_at_midnight (λ day. day_test n (date_of_count (count_of_day day))) i _ found)

first_day : (n : ℕ) (i : ℤ) → 0 < n → IsInstant i → IsFirstOf (is_boundary Day n) last_boundary i (boundary_at After Day n i)
unfolding count_of_day
first_day n i some in_range =
    let q : ℤ = day_of_instant i in
    let d : Date = date_of_count (count_of_day q) in
    let y : ℕ = d.year in let m : ℕ = d.month - 1 in
    let at = here i in_range in
    let inside = year_inside i in_range in
    let below = at.month_below in let is = at.from_year in let month = at.in_month in let year = at.in_year in
    let found = first_in (λ day. day_test n (date_of_count (count_of_day day))) (λ k. day_at (days_before_year y + days_of_months (is_leap y) m + k))
    n (days_of_month (is_leap y) (m + 1)) (days_divide_month y m n at.month_below) some (pos 2932532) (λ _. days_end_month y m n at.month_below)
    (d.day - 1) at.day_below q (omega (arith, ints, is)) (omega (arith, ints, is)) in
    let f : ℕ = d.day - 1 in
    let from = at.has.month_low in
    let again : m + 1 ≡ d.month = omega (arith, from) in
    let place = ap
    (λ k. day_at (days_before_year y + days_of_months (is_leap y) m + min (days_of_month (is_leap y) k) (f - f % n + n)) *ℤ pos 86400000) again in
    subst (IsFirstOf (is_boundary Day n) last_boundary i) place
    (first_same _ _ last_boundary i _ (day_same n) (first_at_midnight (λ day. day_test n (date_of_count (count_of_day day))) i _ (pos 2932532) found))

-- ---- months

month_same : (n : ℕ) (j : ℤ) → (begins_day j && month_test n (date_of_count (count_of_day (day_of_instant j)))) ≡ is_boundary Month n j
unfolding is_boundary count_of_day
month_same n j = and_joined (begins_day j) _ _

last_month : (n : ℕ) (i : ℤ) → 0 < n → IsInstant i → IsLastOf (is_boundary Month n) i (boundary_at Before Month n i)
unfolding count_of_day
last_month n i some in_range =
    let q : ℤ = day_of_instant i in
    let d : Date = date_of_count (count_of_day q) in
    let y : ℕ = d.year in let m : ℕ = d.month - 1 in
    let at = here i in_range in
    let inside = year_inside i in_range in
    let below = at.month_below in let is = at.from_year in let month = at.in_month in let year = at.in_year in
    let found = last_in (λ day. month_test n (date_of_count (count_of_day day))) (λ k. day_at (days_before_year y + days_of_months (is_leap y) k)) n
    12 (months_divide_year y n) some m at.month_below q (omega (arith, ints, is)) (omega (arith, ints, month)) in
    last_same _ _ i _ (month_same n) (last_at_midnight (λ day. month_test n (date_of_count (count_of_day day))) i _ found)

first_month : (n : ℕ) (i : ℤ) → 0 < n → IsInstant i → IsFirstOf (is_boundary Month n) last_boundary i (boundary_at After Month n i)
unfolding count_of_day
first_month n i some in_range =
    let q : ℤ = day_of_instant i in
    let d : Date = date_of_count (count_of_day q) in
    let y : ℕ = d.year in let m : ℕ = d.month - 1 in
    let at = here i in_range in
    let inside = year_inside i in_range in
    let below = at.month_below in let is = at.from_year in let month = at.in_month in let year = at.in_year in
    let found = first_in (λ day. month_test n (date_of_count (count_of_day day))) (λ k. day_at (days_before_year y + days_of_months (is_leap y) k)) n
    12 (months_divide_year y n) some (pos 2932532) (λ _. months_end_year y n) m
    at.month_below q (omega (arith, ints, is)) (omega (arith, ints, month)) in
    first_same _ _ last_boundary i _ (month_same n) (first_at_midnight (λ day. month_test n (date_of_count (count_of_day day))) i _ (pos 2932532) found)

-- ---- quarters

quarter_same : (n : ℕ) (j : ℤ) → (begins_day j && quarter_test n (date_of_count (count_of_day (day_of_instant j)))) ≡ is_boundary Quarter n j
unfolding is_boundary count_of_day
quarter_same n j = and_joined_twice (begins_day j) _ _ _

last_quarter : (n : ℕ) (i : ℤ) → 0 < n → IsInstant i → IsLastOf (is_boundary Quarter n) i (boundary_at Before Quarter n i)
unfolding count_of_day
last_quarter n i some in_range =
    let q : ℤ = day_of_instant i in
    let d : Date = date_of_count (count_of_day q) in
    let y : ℕ = d.year in let m : ℕ = d.month - 1 in
    let at = here i in_range in
    let inside = year_inside i in_range in
    let below = at.month_below in let is = at.from_year in let month = at.in_month in let year = at.in_year in
    let start = months_grow (is_leap y) (3 * (m / 3)) m (omega arith) in
    let stop = months_grow (is_leap y) (m + 1) (3 * (m / 3 + 1)) (omega arith) in
    let found = last_in (λ day. quarter_test n (date_of_count (count_of_day day)))
    (λ k. day_at (days_before_year y + days_of_months (is_leap y) (3 * k))) n 4 (quarters_divide_year y n) some (m / 3) (omega (arith, below)) q
    (omega (arith, ints, is, start)) (omega (arith, ints, month, stop)) in
    last_same _ _ i _ (quarter_same n) (last_at_midnight (λ day. quarter_test n (date_of_count (count_of_day day))) i _ found)

first_quarter : (n : ℕ) (i : ℤ) → 0 < n → IsInstant i → IsFirstOf (is_boundary Quarter n) last_boundary i (boundary_at After Quarter n i)
unfolding count_of_day
first_quarter n i some in_range =
    let q : ℤ = day_of_instant i in
    let d : Date = date_of_count (count_of_day q) in
    let y : ℕ = d.year in let m : ℕ = d.month - 1 in
    let at = here i in_range in
    let inside = year_inside i in_range in
    let below = at.month_below in let is = at.from_year in let month = at.in_month in let year = at.in_year in
    let start = months_grow (is_leap y) (3 * (m / 3)) m (omega arith) in
    let stop = months_grow (is_leap y) (m + 1) (3 * (m / 3 + 1)) (omega arith) in
    let found = first_in (λ day. quarter_test n (date_of_count (count_of_day day)))
    (λ k. day_at (days_before_year y + days_of_months (is_leap y) (3 * k))) n 4 (quarters_divide_year y n) some (pos 2932532)
    (λ _. quarters_end_year y n) (m / 3) (omega (arith, below)) q (omega (arith, ints, is, start)) (omega (arith, ints, month, stop)) in
    first_same _ _ last_boundary i _ (quarter_same n) (first_at_midnight (λ day. quarter_test n (date_of_count (count_of_day day))) i _ (pos 2932532) found)

-- ---- years

year_same : (n : ℕ) (j : ℤ) → (begins_day j && year_test n (date_of_count (count_of_day (day_of_instant j)))) ≡ is_boundary Year n j
unfolding is_boundary count_of_day
year_same n j = and_joined_twice (begins_day j) _ _ _

last_year : (n : ℕ) (i : ℤ) → 0 < n → IsInstant i → IsLastOf (is_boundary Year n) i (boundary_at Before Year n i)
unfolding count_of_day
last_year n i some in_range =
    let q : ℤ = day_of_instant i in
    let d : Date = date_of_count (count_of_day q) in
    let y : ℕ = d.year in let m : ℕ = d.month - 1 in
    let at = here i in_range in
    let inside = year_inside i in_range in
    let below = at.month_below in let is = at.from_year in let month = at.in_month in let year = at.in_year in
    let found = last_in (λ day. year_test n (date_of_count (count_of_day day))) (λ k. day_at (days_before_year k)) n 10000 (years_divide_days n) some
    y (omega (arith, inside)) q (omega (arith, ints, is)) (omega (arith, ints, year)) in
    last_same _ _ i _ (year_same n) (last_at_midnight (λ day. year_test n (date_of_count (count_of_day day))) i _ found)

first_year : (n : ℕ) (i : ℤ) → 0 < n → IsInstant i → IsFirstOf (is_boundary Year n) last_boundary i (boundary_at After Year n i)
unfolding count_of_day
first_year n i some in_range =
    let q : ℤ = day_of_instant i in
    let d : Date = date_of_count (count_of_day q) in
    let y : ℕ = d.year in let m : ℕ = d.month - 1 in
    let at = here i in_range in
    let inside = year_inside i in_range in
    let below = at.month_below in let is = at.from_year in let month = at.in_month in let year = at.in_year in
    let found = first_in (λ day. year_test n (date_of_count (count_of_day day))) (λ k. day_at (days_before_year k)) n 10000 (years_divide_days n) some
    (pos 2932532) (λ within. absurd (omega (arith, ints, late_year, within))) y
    (omega (arith, inside)) q (omega (arith, ints, is)) (omega (arith, ints, year)) in
    first_same _ _ last_boundary i _ (year_same n) (first_at_midnight (λ day. year_test n (date_of_count (count_of_day day))) i _ (pos 2932532) found)

-- ---- weeks

week_test : ℕ → ℤ → Bool
week_test n day = (weekday_of day == 0) && (0 % n == 0)

week_same : (n : ℕ) (j : ℤ) → (begins_day j && week_test n (day_of_instant j)) ≡ is_boundary Week n j
unfolding is_boundary week_test
week_same n j = and_joined (begins_day j) _ _

seven : (z : ℤ) → int_div_euclid z (pos 7) *ℤ pos 7 +ℤ pos (unsigned_abs (int_rem_euclid z (pos 7))) ≡ z
seven (pos n) = omega (arith, ints)
seven (negsuc n) = omega (arith, ints)

below_seven : (z : ℤ) → unsigned_abs (int_rem_euclid z (pos 7)) < 7
below_seven (pos n) = omega arith
below_seven (negsuc n) = omega arith

week_of : ℤ → ℤ
week_of day = int_div_euclid (day +ℤ pos 4) (pos 7)

-- a day by its week and its weekday
by_week : (day : ℤ) → week_of day *ℤ pos 7 +ℤ pos (weekday_of day) ≡ day +ℤ pos 4
unfolding weekday_of week_of
by_week day = seven (day +ℤ pos 4)

weekday_small : (day : ℤ) → weekday_of day < 7
unfolding weekday_of
weekday_small day = below_seven (day +ℤ pos 4)

pub weekday_at_most_6 : (day : ℤ) → weekday_of day ≤ 6
weekday_at_most_6 day = let small = weekday_small day in omega (arith, small)

sunday : (n : ℕ) (day : ℤ) → weekday_of day ≡ 0 → week_test n day ≡ true
unfolding week_test
sunday n day e = and_from _ _ (ap (λ k. k == 0) e) (ap (λ k. k == 0) (zero-mod n))

is_sunday : (n : ℕ) (day : ℤ) → week_test n day ≡ true → weekday_of day ≡ 0
unfolding week_test
is_sunday n day e = eqb-true (weekday_of day) 0 (and_parts _ _ e).0

sunday_before : (n : ℕ) (day : ℤ) → IsLastOf (week_test n) day (boundary_of_week Before day)
sunday_before n day =
    let b : ℤ = day -ℤ pos (weekday_of day) in
    let day_is = by_week day in let b_is = by_week b in let small = weekday_small b in
    record {
      not_after = omega (arith, ints);
      hit = sunday n b (omega (arith, ints, day_is, b_is, small));
      none = λ j above under. not_true (week_test n j) (λ holds.
          let first = is_sunday n j holds in let j_is = by_week j in let small = weekday_small day in
          absurd (omega (arith, ints, day_is, j_is, first, above, under, small)));
    }

sunday_after : (n : ℕ) (limit day : ℤ) → IsFirstOf (week_test n) limit day (boundary_of_week After day)
sunday_after n limit day =
    let b : ℤ = day -ℤ pos (weekday_of day) +ℤ pos 7 in
    let day_is = by_week day in let b_is = by_week b in let small = weekday_small b in
    let short = weekday_small day in
    record {
      after = omega (arith, ints, short);
      hit = λ within. sunday n b (omega (arith, ints, day_is, b_is, small));
      none = λ j above under. not_true (week_test n j) (λ holds.
          let first = is_sunday n j holds in let j_is = by_week j in
          absurd (omega (arith, ints, day_is, j_is, first, above, under, short)));
    }

-- ---- every unit

pub last_of_unit : (unit : Unit) (n : ℕ) (i : ℤ) → 0 < n → IsInstant i → IsLastOf (is_boundary unit n) i (boundary_at Before unit n i)
last_of_unit Millisecond n i some in_range = last_millisecond n i some
last_of_unit Second n i some in_range = last_second n i some
last_of_unit Minute n i some in_range = last_minute n i some
last_of_unit Hour n i some in_range = last_hour n i some
last_of_unit Day n i some in_range = last_day n i some in_range
last_of_unit Week n i some in_range = last_same _ _ i _ (week_same n) (last_at_midnight (week_test n) i _ (sunday_before n (day_of_instant i)))
last_of_unit Month n i some in_range = last_month n i some in_range
last_of_unit Quarter n i some in_range = last_quarter n i some in_range
last_of_unit Year n i some in_range = last_year n i some in_range

pub first_of_unit : (unit : Unit) (n : ℕ) (i : ℤ) → 0 < n → IsInstant i → IsFirstOf (is_boundary unit n) last_boundary i (boundary_at After unit n i)
first_of_unit Millisecond n i some in_range = first_millisecond n i last_boundary some
first_of_unit Second n i some in_range = first_second n i last_boundary some
first_of_unit Minute n i some in_range = first_minute n i last_boundary some
first_of_unit Hour n i some in_range = first_hour n i last_boundary some
first_of_unit Day n i some in_range = first_day n i some in_range
first_of_unit Week n i some in_range =
    first_same _ _ last_boundary i _ (week_same n) (first_at_midnight (week_test n) i _ (pos 2932532) (sunday_after n (pos 2932532) (day_of_instant i)))
first_of_unit Month n i some in_range = first_month n i some in_range
first_of_unit Quarter n i some in_range = first_quarter n i some in_range
first_of_unit Year n i some in_range = first_year n i some in_range

-- ---- in range

-- what `truncate` answers
last_in_range : (unit : Unit) (n : ℕ) (i b : ℤ) → IsInstant i → IsLastOf (is_boundary unit n) i b → IsLastBoundary unit n i (int_max first_instant b)
last_in_range unit n i b in_range last =
    let low = in_range.low in
    elim (int_lt b first_instant) as (λ w. int_lt b first_instant ≡ w → IsLastBoundary unit n i (cond w first_instant b)) [
      | true ↦ λ e. record {
        in_range = omega (arith, ints);
        not_after = low;
        boundary = inr refl;
        none_between = λ j above upto. last.none j (omega (arith, ints, above, e)) upto;
      }
      | false ↦ λ e. record {
        in_range = omega (arith, ints, e);
        not_after = last.not_after;
        boundary = inl last.hit;
        none_between = last.none;
      }
    ] refl

pub truncated_is_last : (unit : Unit) (n : ℕ) (i : ℤ) → 0 < n → IsInstant i → IsLastBoundary unit n i (truncated unit n i)
unfolding truncated
truncated_is_last unit n i some in_range = last_in_range unit n i (boundary_at Before unit n i) in_range (last_of_unit unit n i some in_range)

pub answers_last : (unit : Unit) (n : ℕ) (o answer : Option ℤ) (i : ℤ) → 0 < n → IsInstant i → o ≡ Some i
    → answer ≡ Some (instant_number (truncated unit n i)) → Truncates unit n o answer
answers_last unit n o answer i some in_range here is =
    let P : Option ℤ → Type 0 = λ o. Truncates unit n o answer in
    subst P (sym here) (truncated unit n i, is, truncated_is_last unit n i some in_range)

-- what `next` answers
first_in_range : (unit : Unit) (n : ℕ) (i b : ℤ) (o : Option ℤ) → IsFirstOf (is_boundary unit n) last_boundary i b
    → o ≡ (if int_le b last_boundary then Some b else None) → Follows unit n (Some i) (option_map instant_number o)
first_in_range unit n i b o first is =
    let P : Option ℤ → Type 0 = λ o. Follows unit n (Some i) (option_map instant_number o) in
    subst P (sym is) (elim (int_le b last_boundary) as
    (λ w. int_le b last_boundary ≡ w → Follows unit n (Some i) (option_map instant_number (if w then Some b else None))) [
      | true ↦ λ e. (
        b,
        refl,
        record {
          after = first.after;
          in_range = omega (arith, ints, e);
          boundary = first.hit (omega (arith, ints, e));
          none_between = first.none;
        },
      )
      | false ↦ λ e. λ j above upto. first.none j above (omega (arith, ints, upto, e))
    ] refl)

pub next_is_first : (unit : Unit) (n : ℕ) (i : ℤ) → 0 < n → IsInstant i → Follows unit n (Some i) (option_map instant_number (next_boundary unit n i))
unfolding next_boundary
next_is_first unit n i some in_range = first_in_range unit n i (boundary_at After unit n i) (next_boundary unit n i) (first_of_unit unit n i some in_range) refl

pub answers_first : (unit : Unit) (n : ℕ) (o next answer : Option ℤ) (i : ℤ) → 0 < n → IsInstant i → o ≡ Some i
    → next ≡ next_boundary unit n i → answer ≡ option_map instant_number next → Follows unit n o answer
answers_first unit n o next answer i some in_range here is seen =
    let P : Option ℤ → Type 0 = λ o. Follows unit n o answer in
    let Q : Option ℤ → Type 0 = λ a. Follows unit n (Some i) a in
    subst P (sym here) (subst Q (sym (seen ∙ ap (option_map instant_number) is)) (next_is_first unit n i some in_range))

pub next_in_range : (unit : Unit) (n : ℕ) (i b : ℤ) → 0 < n → IsInstant i → next_boundary unit n i ≡ Some b → (first_instant ≤ℤ b) × (b ≤ℤ last_boundary)
next_in_range unit n i b some in_range e =
    let P : Option ℤ → Type 0 = λ o. Follows unit n (Some i) (option_map instant_number o) in
    let (place, is, first) = subst P e (next_is_first unit n i some in_range) in
    let low = in_range.low in let after = first.after in let upto = first.in_range in
    let same : b ≡ place = omega (arith, ints, is) in
    (omega (arith, ints, low, after, same), omega (arith, ints, upto, same))
