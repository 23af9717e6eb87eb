-- The boundaries of units of time: from which instants a unit is counted.
use Rattle.std.specs.Prelude.{ℕ, ◌-◌, ◌/◌, ◌%◌, ◌==◌, ◌&&◌, ◌⊎◌, Bool, true, false, ℤ, pos, negsuc, ◌+ℤ◌, ◌≤ℤ◌, ◌<ℤ◌, unsigned_abs, Option}
use Rattle.std.specs.Prelude.{Some, None, ◌≡◌, refl}
use Rattle.case_table.specs.declared.unit.Unit.{Unit}
use Rattle.case_table.specs.declared.unit.Unit.TheVariants.{Millisecond, Second, Minute, Hour, Day, Week, Month, Quarter, Year}
use Rattle.time_calc.specs.declared.calendar.Date.{Date}
use Rattle.time_calc.specs.Calendar.{days_before_year, days_of_months, date_of_day, date_of_count, greatest_passing, weekday_of}
use Rattle.time_calc.specs.Instants.{first_instant, last_instant, instant_number, day_of_instant, time_of_instant}

-- the date of an instant
abbrev pub date_at : ℤ → Date
date_at instant = date_of_day (day_of_instant instant)

-- an instant begins a second, a minute, an hour, a day, a month: all smaller parts of it are zero, or the first
abbrev pub begins_second : ℤ → Bool
begins_second instant = (time_of_instant instant).milliseconds == 0

abbrev pub begins_minute : ℤ → Bool
begins_minute instant = begins_second instant && ((time_of_instant instant).seconds == 0)

abbrev pub begins_hour : ℤ → Bool
begins_hour instant = begins_minute instant && ((time_of_instant instant).minutes == 0)

abbrev pub begins_day : ℤ → Bool
begins_day instant = begins_hour instant && ((time_of_instant instant).hours == 0)

abbrev pub begins_month : ℤ → Bool
begins_month instant = begins_day instant && ((date_at instant).day == 1)

-- the number of the month in its year, counted from 0
abbrev pub month_from_0 : ℤ → ℕ
month_from_0 instant = (date_at instant).month - 1

-- an instant begins a unit: weeks begin on Sunday
abbrev pub begins : Unit → ℤ → Bool
begins Millisecond instant = true
begins Second instant = begins_second instant
begins Minute instant = begins_minute instant
begins Hour instant = begins_hour instant
begins Day instant = begins_day instant
begins Week instant = begins_day instant && (weekday_of (day_of_instant instant) == 0)
begins Month instant = begins_month instant
begins Quarter instant = begins_month instant && (month_from_0 instant % 3 == 0)
begins Year instant = begins_month instant && (month_from_0 instant == 0)

-- the number of the unit that an instant is in, by which boundaries of several units are counted: milliseconds from 1970, seconds in their
-- minute, minutes in their hour, hours in their day, days in their month, months and quarters in their year; weeks aren't counted
abbrev pub number_of_unit : Unit → ℤ → ℕ
number_of_unit Millisecond instant = unsigned_abs instant
number_of_unit Second instant = (time_of_instant instant).seconds
number_of_unit Minute instant = (time_of_instant instant).minutes
number_of_unit Hour instant = (time_of_instant instant).hours
number_of_unit Day instant = (date_at instant).day - 1
number_of_unit Week instant = 0
number_of_unit Month instant = month_from_0 instant
number_of_unit Quarter instant = month_from_0 instant / 3
number_of_unit Year instant = (date_at instant).year

-- an instant is a boundary of n units: it begins a unit whose number is a multiple of n
unfoldable pub is_boundary : Unit → ℕ → ℤ → Bool
is_boundary unit n instant = begins unit instant && (number_of_unit unit instant % n == 0)

-- 9999-01-01T00:00Z, up to which boundaries may lie
abbrev pub last_boundary : ℤ
last_boundary = last_instant +ℤ pos 1

-- b is the last boundary of n units in range that isn't after an instant, or the first instant of the range where there is none
pub record IsLastBoundary (unit : Unit) (n : ℕ) (instant b : ℤ) : Type 0 where
  pub in_range : first_instant ≤ℤ b
  pub not_after : b ≤ℤ instant
  pub boundary : (is_boundary unit n b ≡ true) ⊎ (b ≡ first_instant)
  pub none_between : (i : ℤ) → b <ℤ i → i ≤ℤ instant → is_boundary unit n i ≡ false

-- b is the first boundary of n units after an instant
pub record IsFirstBoundary (unit : Unit) (n : ℕ) (instant b : ℤ) : Type 0 where
  pub after : instant <ℤ b
  pub in_range : b ≤ℤ last_boundary
  pub boundary : is_boundary unit n b ≡ true
  pub none_between : (i : ℤ) → instant <ℤ i → i <ℤ b → is_boundary unit n i ≡ false

-- no boundary of n units follows an instant
abbrev pub NoneFollows : Unit → ℕ → ℤ → Type 0
NoneFollows unit n instant = (i : ℤ) → instant <ℤ i → i ≤ℤ last_boundary → is_boundary unit n i ≡ false

-- an answer is the number of the last boundary not after an instant; none exactly where there is no instant
abbrev pub Truncates : Unit → ℕ → Option ℤ → Option ℤ → Type 0
Truncates unit n None answer = answer ≡ None
Truncates unit n (Some instant) answer = (b : ℤ) × (answer ≡ Some (instant_number b)) × IsLastBoundary unit n instant b

-- an answer is the number of the first boundary after an instant; none exactly where there is no instant, or no boundary follows it
abbrev pub Follows : Unit → ℕ → Option ℤ → Option ℤ → Type 0
Follows unit n None answer = answer ≡ None
Follows unit n (Some instant) None = NoneFollows unit n instant
Follows unit n (Some instant) (Some number) = (b : ℤ) × (number ≡ instant_number b) × IsFirstBoundary unit n instant b

-- ---- worked examples

abbrev leap_day : ℤ
leap_day = pos 1709164800000

the_leap_day_of_2024 : (is_boundary Day 2 leap_day ≡ true) × (is_boundary Day 5 leap_day ≡ false) × (is_boundary Month 1 leap_day ≡ false)
unfolding is_boundary day_of_instant time_of_instant date_of_count greatest_passing days_before_year days_of_months
the_leap_day_of_2024 = (refl, refl, refl)

a_sunday : (is_boundary Week 1 (pos 1708819200000) ≡ true) × (is_boundary Week 1 leap_day ≡ false)
unfolding is_boundary day_of_instant time_of_instant weekday_of
a_sunday = (refl, refl)

before_1970 : (is_boundary Millisecond 7 (negsuc 6) ≡ true) × (is_boundary Millisecond 7 (negsuc 7) ≡ false)
unfolding is_boundary
before_1970 = (refl, refl)
