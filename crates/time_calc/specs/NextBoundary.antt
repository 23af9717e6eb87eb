-- Where boundaries lie, by the parts of an instant. That these are the boundaries of `Boundaries` is what `truncate` and `next` promise.
use Rattle.std.specs.Prelude.{ℕ, ◌+◌, ◌-◌, ◌*◌, ◌/◌, ◌%◌, min, int_le, if◌then◌else◌, ℤ, pos, ◌+ℤ◌, ◌-ℤ◌, ◌*ℤ◌, unsigned_abs, Option, Some, None, ◌≡◌, refl}
use Rattle.std.specs.Int.{int_rem_euclid, int_max}
use Rattle.case_table.specs.declared.unit.Unit.{Unit}
use Rattle.case_table.specs.declared.unit.Unit.TheVariants.{Millisecond, Second, Minute, Hour, Day, Week, Month, Quarter}
use Rattle.time_calc.specs.declared.boundaries.Side.{Side}
use Rattle.time_calc.specs.declared.boundaries.Side.TheVariants.{Before, After}
use Rattle.time_calc.specs.declared.calendar.Date.{Date}
use Rattle.time_calc.specs.Calendar.{is_leap, days_of_month, days_before_year, days_of_months, days_before_1970, date_of_count, greatest_passing, weekday_of}
use Rattle.time_calc.specs.Instants.{day_length, day_of_instant, first_instant}
use Rattle.time_calc.specs.Boundaries.{last_boundary, date_at}

-- of the units of a period, counted from 0, the last with a multiple of n as its number up to one of them, or the first after it; past
-- the last unit the period ends
abbrev pub picked : Side → ℕ → ℕ → ℕ → ℕ
picked Before n count number = number - number % n
picked After n count number = min count (number - number % n + n)

-- the milliseconds since midnight of a boundary of seconds, minutes or hours, for those of an instant
abbrev pub boundary_in_day : Side → Unit → ℕ → ℕ → ℕ
boundary_in_day side Second n m = m - m % 60000 + 1000 * picked side n 60 (m / 1000 % 60)
boundary_in_day side Minute n m = m - m % 3600000 + 60000 * picked side n 60 (m / 60000 % 60)
boundary_in_day side _ n m = 3600000 * picked side n 24 (m / 3600000)

-- the days before a boundary of days, months, quarters or years, counted from 1 January of the year 0, for the date of an instant
abbrev pub boundary_by_date : Side → Unit → ℕ → Date → ℕ
boundary_by_date side Day n d =
    days_before_year d.year + days_of_months (is_leap d.year) (d.month - 1)
    + picked side n (days_of_month (is_leap d.year) d.month) (d.day - 1)
boundary_by_date side Month n d = days_before_year d.year + days_of_months (is_leap d.year) (picked side n 12 (d.month - 1))
boundary_by_date side Quarter n d = days_before_year d.year + days_of_months (is_leap d.year) (3 * picked side n 4 ((d.month - 1) / 3))
boundary_by_date side _ n d = days_before_year (picked side n 10000 d.year)

-- the Sunday of a week
abbrev pub boundary_of_week : Side → ℤ → ℤ
boundary_of_week Before day = day -ℤ pos (weekday_of day)
boundary_of_week After day = day -ℤ pos (weekday_of day) +ℤ pos 7

-- a multiple of n milliseconds
abbrev pub boundary_of_milliseconds : Side → ℕ → ℤ → ℤ
boundary_of_milliseconds Before n instant = instant -ℤ int_rem_euclid instant (pos n)
boundary_of_milliseconds After n instant = instant -ℤ int_rem_euclid instant (pos n) +ℤ pos n

-- the boundary of seconds, minutes or hours in the day of an instant
abbrev pub boundary_of_clock : Side → Unit → ℕ → ℤ → ℤ
boundary_of_clock side unit n instant =
    day_of_instant instant *ℤ pos day_length
    +ℤ pos (boundary_in_day side unit n (unsigned_abs (int_rem_euclid instant (pos day_length))))

-- the boundary of days, months, quarters or years by the date of an instant
abbrev pub boundary_of_dates : Side → Unit → ℕ → ℤ → ℤ
boundary_of_dates side unit n instant = (pos (boundary_by_date side unit n (date_at instant)) -ℤ pos days_before_1970) *ℤ pos day_length

-- the last boundary of n units that isn't after an instant, or the first after it, in range or not
abbrev pub boundary_at : Side → Unit → ℕ → ℤ → ℤ
boundary_at side Millisecond n instant = boundary_of_milliseconds side n instant
boundary_at side Second n instant = boundary_of_clock side Second n instant
boundary_at side Minute n instant = boundary_of_clock side Minute n instant
boundary_at side Hour n instant = boundary_of_clock side Hour n instant
boundary_at side Week n instant = boundary_of_week side (day_of_instant instant) *ℤ pos day_length
boundary_at side unit n instant = boundary_of_dates side unit n instant

-- the last boundary in range that isn't after an instant, or the first instant of the range
unfoldable pub truncated : Unit → ℕ → ℤ → ℤ
truncated unit n instant = int_max first_instant (boundary_at Before unit n instant)

-- the first boundary after an instant; none where it is past the last that there may be
unfoldable pub next_boundary : Unit → ℕ → ℤ → Option ℤ
next_boundary unit n instant =
    if int_le (boundary_at After unit n instant) last_boundary then Some (boundary_at After unit n instant) else None

-- ---- worked examples

the_month_after_a_leap_day : next_boundary Month 1 (pos 1709211600000) ≡ Some (pos 1709251200000)
unfolding next_boundary day_of_instant date_of_count greatest_passing days_before_year days_of_months
the_month_after_a_leap_day = refl

the_quarter_of_a_leap_day : truncated Quarter 1 (pos 1709211600000) ≡ pos 1704067200000
unfolding truncated day_of_instant date_of_count greatest_passing days_before_year days_of_months
the_quarter_of_a_leap_day = refl
