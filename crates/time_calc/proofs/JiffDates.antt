-- Dates of jiff are counted as those of the calendar are, from the year 0 on.
use Rattle.std.proofs.Common.{◌≡◌, ℕ, zero, suc, ◌+◌, ◌-◌, ◌%◌, ◌≤◌, Bool, inl, refl, sym, ap, ◌∙◌, arith, rules, ℤ, pos, negsuc, ◌+ℤ◌, unsigned_abs}
use Rattle.std.proofs.lemmas.Bool.Decides.{nat_tests}
use Rattle.jiff_core.specs.declared.civil.date.Date.{Date as Plain}
use Rattle.jiff_core.specs.Calendar.{days_of_years, days_of_months as months_of, day_count as count_of}
use Rattle.jiff_core.specs.Date.{epoch_day, weekday_of}
use Rattle.jiff_core.proofs.SignedLemmas.{signed_arith}
use Rattle.jiff_core.proofs.MarchLemmas.{days_of_years-march_days}
use Rattle.jiff_core.proofs.CalendarLemmas.{days_from_civil-day_count, weekday_number-parts}
use Rattle.jiff_core.proofs.DateLemmas.{epoch_day-lt}
use Rattle.time_calc.specs.declared.calendar.Date.{Date}
use Rattle.time_calc.specs.Calendar.{is_leap, days_of_month, days_before_year, days_of_months, day_count, date_of_count}
use Rattle.time_calc.proofs.CalendarLemmas.{HasParts, date_of_its_count, years_follow, months_make_the_year}

-- jiff counts years from the year -10000
years_alike : (year : ℕ) → days_of_years (year + 10000) ≡ days_before_year year + 3652425
unfolding days_before_year
years_alike year = let closed = days_of_years-march_days (year + 10000) in grind (arith, nat_tests)

months_alike : (year months : ℕ) → months_of (pos year) months ≡ days_of_months (is_leap year) months
unfolding months_of days_of_months
months_alike year zero = refl
months_alike year (suc months) = ap (λ n. n + days_of_month (is_leap year) (suc months)) (months_alike year months)

counts_alike : (year month day : ℕ) → 1 ≤ day →
    count_of (pos year) month day ≡ days_before_year year + days_of_months (is_leap year) (month - 1) + (day - 1) + 3652425
unfolding count_of
counts_alike year month day h = omega (arith, years_alike year, months_alike year (month - 1))

-- a date of jiff with the parts of a date has its count
pub counted_alike : (c : Plain) (d : Date) → c.year ≡ pos d.year → c.month ≡ d.month → c.day ≡ d.day → epoch_day c +ℤ pos 719528 ≡ pos (day_count d)
unfolding day_count
counted_alike c d year month day =
    let some : 1 ≤ d.day = omega (arith, c.day_in.0, day) in
    let closed = days_from_civil-day_count (pos d.year) d.month d.day in
    rw (year, month, day) (omega (arith, signed_arith, closed, counts_alike d.year d.month d.day some))

-- the first day of the year 0
first_of_0 : Plain
first_of_0 = record { year = pos 0; month = 1; day = 1; year_in = search rules; month_in = search rules; day_in = search rules }

first_day_of_0 : epoch_day first_of_0 +ℤ pos 719528 ≡ pos 0
unfolding first_of_0 days_before_year days_of_months day_count
first_day_of_0 = counted_alike first_of_0 (record { year = 0; month = 1; day = 1 }) refl refl refl

-- a date of jiff from the year 0 on is the date of its count
pub date_alike : (c : Plain) (count : ℕ) → epoch_day c +ℤ pos 719528 ≡ pos count →
    date_of_count count ≡ record { year = unsigned_abs c.year; month = c.month; day = c.day }
unfolding first_of_0
date_alike c count is = by c.year refl
  where
    by : (year : ℤ) → c.year ≡ year → date_of_count count ≡ record { year = unsigned_abs c.year; month = c.month; day = c.day }
    by (negsuc n) e = absurd (omega (arith, signed_arith, is, first_day_of_0, epoch_day-lt c first_of_0 (inl (rw e (search rules)))))
    by (pos year) e =
        let d : Date = record { year = unsigned_abs c.year; month = c.month; day = c.day } in
        let same : c.year ≡ pos d.year = rw e refl in
        let counted = counted_alike c d same refl refl in
        let count_is : day_count d ≡ count = omega (arith, signed_arith, counted, is) in
        let has : HasParts d = record { month_low = c.month_in.0; month_high = c.month_in.1; day_low = c.day_in.0; day_high = rw same at c.day_in.1 } in
        ap date_of_count (sym count_is) ∙ date_of_its_count d has

-- ---- what the code finds

-- the count of a date from the days since the first date of jiff
pub count_since : (c plain : Plain) (d : Date) (n : ℕ) → c.year ≡ pos d.year → c.month ≡ d.month → c.day ≡ d.day → plain ≡ c →
    epoch_day plain +ℤ pos 4371587 ≡ pos n → (3652059 ≤ n) × (n - 3652059 ≡ day_count d)
count_since c plain d n year month day same since =
    let counted = counted_alike c d year month day in
    let same_day = ap epoch_day same in
    (omega (arith, signed_arith, counted, same_day, since), omega (arith, signed_arith, counted, same_day, since))

before_10000 : 3652425 ≡ days_before_year 10000
unfolding days_before_year
before_10000 = refl

pub before_year_10000 : (year : ℕ) → year ≡ 10000 → 3652425 ≡ days_before_year year
before_year_10000 year is = before_10000 ∙ ap days_before_year (sym is)

pub first_of_month : (year months : ℕ) →
    day_count (record { year = year; month = months + 1; day = 1 }) ≡ days_before_year year + days_of_months (is_leap year) months
unfolding day_count
first_of_month year months =
    let back : months + 1 - 1 ≡ months = omega arith in
    omega (arith, ap (days_of_months (is_leap year)) back)

no_months : (leap : Bool) → days_of_months leap 0 ≡ 0
unfolding days_of_months
no_months leap = refl

pub first_of_year : (year : ℕ) → day_count (record { year = year; month = 1; day = 1 }) ≡ days_before_year year
first_of_year year = omega (arith, first_of_month year 0, no_months (is_leap year))

-- after the twelve months of a year the next one begins
pub after_the_year : (year months : ℕ) → months ≡ 12 → days_before_year (year + 1) ≡ days_before_year year + days_of_months (is_leap year) months
after_the_year year months is = omega (arith, years_follow year, months_make_the_year year, ap (days_of_months (is_leap year)) is)

-- 1 January of the year 0 is a Saturday
pub weekday_alike : (c : Plain) (monday count : ℕ) → epoch_day c +ℤ pos 719528 ≡ pos count → monday ≡ weekday_of c → (monday + 1) % 7 ≡ (count + 6) % 7
weekday_alike c monday count is day = omega (arith, signed_arith, is, day, weekday_number-parts (epoch_day c))
