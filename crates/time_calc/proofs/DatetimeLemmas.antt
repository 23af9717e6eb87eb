-- The first day of a month is in range exactly in the years 1 to 9998.
use Rattle.std.proofs.Common.{◌≡◌, ℕ, zero, suc, ◌+◌, ◌-◌, ◌<◌, ◌≤◌, Bool, true, false, cond, int_le, refl, ap, arith, ℤ, pos, negsuc}
use Rattle.std.proofs.Common.{neg_ℤ, ◌*ℤ◌, ◌≤ℤ◌, ◌<ℤ◌, Some, None, unsigned_abs}
use Rattle.std.proofs.lemmas.Bool.{and_from, and_left, and_right}
use Rattle.std.proofs.lemmas.Int.{ints}
use Rattle.time_calc.specs.declared.calendar.Date.{Date}
use Rattle.time_calc.specs.Calendar.{is_leap, days_of_month, days_before_year, days_of_months, day_count, day_of_date}
use Rattle.time_calc.specs.Instants.{day_length, first_instant, last_instant, is_in_range}
use Rattle.time_calc.specs.Datetime.{first_day}
use Rattle.time_calc.proofs.CalendarLemmas.{years_grow, years_follow, months_grow, months_make_the_year}

abbrev first_of : ℕ → ℕ → Date
first_of year month = record { year = year; month = month; day = 1 }

-- the first of a month stands in its year
pub starts_in_year : (year month : ℕ) → days_before_year year ≤ day_count (first_of year month)
unfolding day_count
starts_in_year year month = omega arith

pub ends_in_year : (year month : ℕ) → month ≤ 12 → day_count (first_of year month) < days_before_year (year + 1)
unfolding day_count
ends_in_year year month h =
    let leap : Bool = is_leap year in
    let before : days_of_months leap (month - 1) ≤ days_of_months leap 11 = months_grow leap (month - 1) 11 (omega (arith, h)) in
    let last : days_of_months leap 12 ≡ days_of_months leap 11 + days_of_month leap 12 = unfold days_of_months in refl in
    omega (arith, before, last, months_make_the_year year, years_follow year)

pub year_1 : days_before_year 1 ≡ 366
unfolding days_before_year
year_1 = refl

pub year_9999 : days_before_year 9999 ≡ 3652060
unfolding days_before_year
year_9999 = refl

le_test : (a b : ℤ) → a ≤ℤ b → int_le a b ≡ true
le_test a b h = by (int_le a b) refl
  where
    by : (t : Bool) → int_le a b ≡ t → int_le a b ≡ true
    by true e = e
    by false e = absurd (omega (arith, ints, h))

lt_test : (a b : ℤ) → b <ℤ a → int_le a b ≡ false
lt_test a b h = by (int_le a b) refl
  where
    by : (t : Bool) → int_le a b ≡ t → int_le a b ≡ false
    by true e = absurd (omega (arith, ints, h))
    by false e = e

within_range : (z : ℤ) → first_instant ≤ℤ z → z ≤ℤ last_instant → is_in_range z ≡ true
within_range z low high = and_from _ _ (le_test first_instant z low) (le_test z last_instant high)

below_range : (z : ℤ) → z <ℤ first_instant → is_in_range z ≡ false
below_range z h = and_left _ _ (lt_test first_instant z h)

above_range : (z : ℤ) → last_instant <ℤ z → is_in_range z ≡ false
above_range z h = and_right _ _ (lt_test z last_instant h)

-- the instant at which a day begins
start : ℕ → ℕ → ℤ
start year month = day_of_date (first_of year month) *ℤ pos day_length

pub no_year_before_1 : (year : ℤ) (month : ℕ) → month ≤ 12 → year <ℤ pos 1 → first_day year month ≡ None
unfolding first_day start
no_year_before_1 (negsuc n) month h low = refl
no_year_before_1 (pos zero) month h low =
    let early = ends_in_year 0 month h in
    ap (λ b. cond b (Some (day_of_date (first_of 0 month))) None) (below_range (start 0 month) (omega (arith, ints, early, year_1)))
no_year_before_1 (pos (suc n)) month h low = absurd (omega (arith, ints, low))

pub no_year_after_9998 : (year : ℤ) (month : ℕ) → pos 9998 <ℤ year → first_day year month ≡ None
unfolding first_day start
no_year_after_9998 (negsuc n) month high = absurd (omega (arith, ints, high))
no_year_after_9998 (pos n) month high =
    let late = years_grow 9999 n (omega (arith, ints, high)) in
    ap (λ b. cond b (Some (day_of_date (first_of n month))) None) (above_range (start n month) (omega (arith, ints, late, starts_in_year n month, year_9999)))

pub years_1_to_9998 : (year month : ℕ) → month ≤ 12 → 1 ≤ year → year ≤ 9998 → first_day (pos year) month ≡ Some (day_of_date (first_of year month))
unfolding first_day start
years_1_to_9998 year month h low high =
    let early = years_grow 1 year low in
    let late = years_grow (year + 1) 9999 (omega (arith, high)) in
    ap (λ b. cond b (Some (day_of_date (first_of year month))) None)
    (within_range (start year month)
    (omega (arith, ints, early, starts_in_year year month, year_1))
    (omega (arith, ints, late, ends_in_year year month h, year_9999)))

-- such a day is near
pub near_days : (year month : ℕ) → month ≤ 12 → year ≤ 9998
    → (neg_ℤ (pos 719528) ≤ℤ day_of_date (first_of year month)) × (day_of_date (first_of year month) ≤ℤ pos 2932531)
near_days year month h high =
    let late = years_grow (year + 1) 9999 (omega (arith, high)) in
    (omega (arith, ints), omega (arith, ints, late, ends_in_year year month h, year_9999))

pub in_years : (year : ℤ) (month : ℕ) → month ≤ 12 → pos 1 ≤ℤ year → year ≤ℤ pos 9998
    → first_day year month ≡ Some (day_of_date (first_of (unsigned_abs year) month))
in_years (pos n) month h low high = years_1_to_9998 n month h (omega (arith, ints, low)) (omega (arith, ints, high))
in_years (negsuc n) month h low high = absurd (omega (arith, ints, low))
