-- The start of a time unit is an instant in range.
use Rattle.std.proofs.Common.{◌≡◌, ℕ, ◌+◌, ◌-◌, ◌≤◌, Bool, true, false, cond, arith, List, ℤ, pos, neg_ℤ, ◌+ℤ◌, ◌≤ℤ◌}
use Rattle.std.proofs.lemmas.Bool.{le-leb, and_from}
use Rattle.std.proofs.lemmas.Bool.Decides.{nat_tests}
use Rattle.std.proofs.lemmas.Int.{ints}
use Rattle.case_table.specs.declared.unit.PartOf.{PartOf}
use Rattle.case_table.specs.declared.unit.PartOf.TheVariants as part
use Rattle.time_calc.specs.declared.calendar.Date.{Date}
use Rattle.time_calc.specs.declared.instants.TimeOfDay.{TimeOfDay}
use Rattle.time_calc.specs.Calendar.{is_leap, days_of_month, days_of_months, day_count, day_of_date, weekday_of}
use Rattle.time_calc.specs.Instants.{is_time, day_of_instant, time_of_instant}
use Rattle.time_calc.specs.Boundaries.{date_at}
use Rattle.time_calc.specs.Parts.{part_of}
use Rattle.time_calc.specs.TimeUnits.{keeps, kept_or, kept_month, kept_days, kept_time, start_day, start_of}
use Rattle.time_calc.proofs.CalendarLemmas.{HasParts, years_grow, years_follow, months_make_the_year, months_grow, months_follow}
use Rattle.time_calc.proofs.DatetimeLemmas.{year_1, year_9999}
use Rattle.time_calc.proofs.InstantLemmas.{shows, instants_are_of_their_days}
use Rattle.time_calc.proofs.BoundaryDates.{some_days, count_of_day}
use Rattle.time_calc.proofs.BoundaryUnits.{IsInstant, here, year_inside, year_from_1, weekday_at_most_6}

-- what holds of a number and of what stands in its place holds of what is kept
one_of : (P : ℕ → Type 0) (kept : List PartOf) (p : PartOf) (a b : ℕ) → P a → P b → P (kept_or kept p a b)
one_of P kept p a b yes_a no_b = elim (keeps kept p) as (λ w. P (cond w a b)) [ true ↦ yes_a | false ↦ no_b ]

below : ℕ → ℕ → Type 0
below n k = k ≤ n

few_days : (leap : Bool) (month : ℕ) → days_of_month leap month ≤ 31
few_days leap month = grind (arith, nat_tests)

-- the date of an instant in range
pub record IsDateInRange (d : Date) : Type 0 where
  pub has : HasParts d
  pub low : 1 ≤ d.year
  pub high : d.year ≤ 9998

pub date_in_range : (i : ℤ) → IsInstant i → IsDateInRange (date_at i)
unfolding count_of_day
date_in_range i in_range = record { has = (here i in_range).has; low = year_from_1 i in_range; high = year_inside i in_range }

pub month_in_range : (kept : List PartOf) (d : Date) → IsDateInRange d → IsDateInRange (kept_month kept d)
unfolding below
month_in_range kept d h =
    let P : ℕ → Type 0 = λ k. 1 ≤ k in
    let from = h.has.month_low in let upto = h.has.month_high in
    let m : ℕ = (kept_month kept d).month in
    let y : ℕ = (kept_month kept d).year in
    record {
      has = record {
        month_low = one_of P kept part.Month _ _ from (one_of P kept part.Quarter _ _ (omega arith) (omega arith));
        month_high = one_of (below 12) kept part.Month _ _ upto (one_of (below 12) kept part.Quarter _ _ (omega (arith, upto)) (omega arith));
        day_low = omega arith;
        day_high = some_days (is_leap y) m;
      };
      low = one_of P kept part.Year _ _ h.low (omega arith);
      high = one_of (below 9998) kept part.Year _ _ h.high (omega arith);
    }

pub days_in_range : (kept : List PartOf) (d : Date) (weekday : ℕ) → IsDateInRange d → weekday ≤ 6 → kept_days kept d weekday ≤ 30
unfolding below
days_in_range kept d weekday h small =
    let last = h.has.day_high in
    one_of (below 30) kept part.Date _ _ (omega (arith, last, few_days (is_leap d.year) d.month))
    (one_of (below 30) kept part.Day _ _ (omega (arith, small)) (omega arith))

pub time_in_range : (kept : List PartOf) (t : TimeOfDay) → is_time t ≡ true → is_time (kept_time kept t) ≡ true
unfolding below
time_in_range kept t h =
    let shown = shows t h in
    and_from _ _ (and_from _ _ (and_from _ _
    (le-leb _ _ (one_of (below 23) kept part.Hours _ _ shown.hours (omega arith)))
    (le-leb _ _ (one_of (below 59) kept part.Minutes _ _ shown.minutes (omega arith))))
    (le-leb _ _ (one_of (below 59) kept part.Seconds _ _ shown.seconds (omega arith))))
    (le-leb _ _ (one_of (below 999) kept part.Milliseconds _ _ shown.milliseconds (omega arith)))

-- thirty days after the first of a month in range are in range
pub start_in_range : (y m k : ℕ) → 1 ≤ y → y ≤ 9998 → 1 ≤ m → m ≤ 12 → k ≤ 30 →
    (neg_ℤ (pos 719162) ≤ℤ (day_of_date (record { year = y; month = m; day = 1 }) +ℤ pos k))
    × ((day_of_date (record { year = y; month = m; day = 1 }) +ℤ pos k) ≤ℤ pos 2932531)
unfolding day_count
start_in_range y m k low high from upto few =
    let leap : Bool = is_leap y in
    let before = months_grow leap (m - 1) 11 (omega (arith, upto)) in
    let last : days_of_months leap 12 ≡ days_of_months leap 11 + 31 = december leap in
    let make = months_make_the_year y in let follow = years_follow y in
    let early = years_grow 1 y low in let late = years_grow (y + 1) 9999 (omega (arith, high)) in
    (omega (arith, ints, early, year_1), omega (arith, ints, before, last, make, follow, late, year_9999, few))
  where
    december : (leap : Bool) → days_of_months leap 12 ≡ days_of_months leap 11 + 31
    december leap = months_follow leap 12 (omega arith)

-- the parts of an instant are small numbers
pub small_part : (i : ℤ) (p : PartOf) → IsInstant i → part_of i p ≤ 10000
small_part i part.Year in_range = let high = (date_in_range i in_range).high in omega (arith, high)
small_part i part.Quarter in_range = let high = (date_in_range i in_range).has.month_high in omega (arith, high)
small_part i part.Month in_range = let high = (date_in_range i in_range).has.month_high in omega (arith, high)
small_part i part.Date in_range =
    let last = (date_in_range i in_range).has.day_high in
    omega (arith, last, few_days (is_leap (date_at i).year) (date_at i).month)
small_part i part.Day in_range = omega (arith, weekday_at_most_6 (day_of_instant i))
small_part i part.Hours in_range = let shown = shows (time_of_instant i) (instants_are_of_their_days i).time in let h = shown.hours in omega (arith, h)
small_part i part.Minutes in_range = let shown = shows (time_of_instant i) (instants_are_of_their_days i).time in let h = shown.minutes in omega (arith, h)
small_part i part.Seconds in_range = let shown = shows (time_of_instant i) (instants_are_of_their_days i).time in let h = shown.seconds in omega (arith, h)
small_part i part.Milliseconds in_range = let shown =
    shows (time_of_instant i) (instants_are_of_their_days i).time in let h = shown.milliseconds in omega (arith, h)

-- the start of a time unit is an instant in range
pub start_is_instant : (kept : List PartOf) (i : ℤ) → IsInstant i → IsInstant (start_of kept i)
unfolding start_of
start_is_instant kept i in_range =
    let known = date_in_range i in_range in
    let month = month_in_range kept (date_at i) known in
    let near = start_in_range (kept_month kept (date_at i)).year (kept_month kept (date_at i)).month
    (kept_days kept (date_at i) (weekday_of (day_of_instant i)))
    month.low month.high month.has.month_low month.has.month_high
    (days_in_range kept (date_at i) (weekday_of (day_of_instant i)) known (weekday_at_most_6 (day_of_instant i))) in
    let from : neg_ℤ (pos 719162) ≤ℤ start_day kept i = near.0 in
    let upto : start_day kept i ≤ℤ pos 2932531 = near.1 in
    let time = shows (kept_time kept (time_of_instant i)) (time_in_range kept (time_of_instant i) (instants_are_of_their_days i).time) in
    let a = time.hours in let b = time.minutes in let c = time.seconds in let d = time.milliseconds in
    record { low = omega (arith, ints, from); high = omega (arith, ints, upto, a, b, c, d) }
