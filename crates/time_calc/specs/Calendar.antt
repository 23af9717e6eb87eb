-- The proleptic Gregorian calendar from the year 0 on, which is a leap year. The day 0 is 1 January 1970.
use Rattle.std.specs.Prelude.{ℕ, zero, suc, ◌+◌, ◌-◌, ◌*◌, ◌/◌, ◌%◌, ◌==◌, ◌&&◌, ◌||◌, not, nat_le, Bool, true, false, if◌then◌else◌, ℤ}
use Rattle.std.specs.Prelude.{pos, negsuc, ◌+ℤ◌, ◌-ℤ◌, unsigned_abs, ◌≡◌, refl}
use Rattle.std.specs.Int.{int_rem_euclid}
use Rattle.time_calc.specs.declared.calendar.Date.{Date}

-- every fourth year is a leap year, but of the centuries only every fourth
abbrev pub is_leap : ℕ → Bool
is_leap year = (year % 4 == 0) && (not (year % 100 == 0) || (year % 400 == 0))

-- the days of a year
abbrev pub days_of_year : ℕ → ℕ
days_of_year year = if is_leap year then 366 else 365

-- the days of a month, counted from 1, of a leap year or of another: thirty have April, June, September and November
abbrev pub days_of_month : Bool → ℕ → ℕ
days_of_month leap month =
    if month == 2 then (if leap then 29 else 28)
    else (if (month == 4) || (month == 6) || (month == 9) || (month == 11) then 30 else 31)

-- how many of the years from 0 to before this one are leap years
abbrev pub leap_years_before : ℕ → ℕ
leap_years_before year = (year + 3) / 4 - (year + 99) / 100 + (year + 399) / 400

-- how many days the years from 0 to before this one have
unfoldable pub days_before_year : ℕ → ℕ
days_before_year year = 365 * year + leap_years_before year

-- how many days so many months have from January on
unfoldable pub days_of_months : Bool → ℕ → ℕ
days_of_months leap zero = 0
days_of_months leap (suc month) = days_of_months leap month + days_of_month leap (suc month)

-- the calendar has a date: its month is from 1 to 12, and its month has that day
abbrev pub is_date : Date → Bool
is_date d = nat_le 1 d.month && nat_le d.month 12 && nat_le 1 d.day && nat_le d.day (days_of_month (is_leap d.year) d.month)

-- how many days there are from 1 January of the year 0 to a date
unfoldable pub day_count : Date → ℕ
day_count d = days_before_year d.year + days_of_months (is_leap d.year) (d.month - 1) + (d.day - 1)

-- how many days there are from 1 January of the year 0 to 1 January 1970
abbrev pub days_before_1970 : ℕ
days_before_1970 = 719528

-- the day of a date, counted from 1 January 1970
abbrev pub day_of_date : Date → ℤ
day_of_date d = pos (day_count d) -ℤ pos days_before_1970

-- the greatest number up to a bound that passes a test, and 0 where none does
unfoldable pub greatest_passing : (ℕ → Bool) → ℕ → ℕ
greatest_passing passes zero = 0
greatest_passing passes (suc n) = if passes (suc n) then suc n else greatest_passing passes n

-- the year of a day counted from 1 January of the year 0: the greatest that doesn't begin after it
abbrev pub year_of_count : ℕ → ℕ
year_of_count count = greatest_passing (λ year. nat_le (days_before_year year) count) (count / 365)

-- the month of a day counted from 1 January of its year: the greatest that doesn't begin after it
abbrev pub month_of_count : Bool → ℕ → ℕ
month_of_count leap count = greatest_passing (λ month. nat_le (days_of_months leap (month - 1)) count) 12

-- the date of a day of a year, counted from its 1 January
abbrev pub date_in_year : ℕ → ℕ → Date
date_in_year year count = record {
  year = year;
  month = month_of_count (is_leap year) count;
  day = count - days_of_months (is_leap year) (month_of_count (is_leap year) count - 1) + 1;
}

-- the date of a day counted from 1 January of the year 0
unfoldable pub date_of_count : ℕ → Date
date_of_count count = date_in_year (year_of_count count) (count - days_before_year (year_of_count count))

-- the date of a day, counted from 1 January 1970, from the year 0 on
abbrev pub date_of_day : ℤ → Date
date_of_day day = date_of_count (unsigned_abs (day +ℤ pos days_before_1970))

-- the day of the week, Sunday 0 and Saturday 6: 1 January 1970 was a Thursday
unfoldable pub weekday_of : ℤ → ℕ
weekday_of day = unsigned_abs (int_rem_euclid (day +ℤ pos 4) (pos 7))

-- ---- worked examples

centuries : (is_leap 1900 ≡ false) × (is_leap 2000 ≡ true)
centuries = (refl, refl)

the_epoch : day_of_date (record { year = 1970; month = 1; day = 1 }) ≡ pos 0
unfolding day_count days_before_year days_of_months
the_epoch = refl

the_leap_day_of_2024 : date_of_day (pos 19782) ≡ record { year = 2024; month = 2; day = 29 }
unfolding date_of_count greatest_passing days_before_year days_of_months
the_leap_day_of_2024 = refl

the_first_day_of_the_year_1 : date_of_day (negsuc 719161) ≡ record { year = 1; month = 1; day = 1 }
unfolding date_of_count greatest_passing days_before_year days_of_months
the_first_day_of_the_year_1 = refl

the_last_day_of_9999 : date_of_day (pos 2932896) ≡ record { year = 9999; month = 12; day = 31 }
unfolding date_of_count greatest_passing days_before_year days_of_months
the_last_day_of_9999 = refl

a_thursday : weekday_of (pos 20545) ≡ 4
unfolding weekday_of
a_thursday = refl

a_day_before_the_epoch : weekday_of (negsuc 4) ≡ 6
unfolding weekday_of
a_day_before_the_epoch = refl
