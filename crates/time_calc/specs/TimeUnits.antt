-- The start and the end of a time unit at an instant.
use Rattle.std.specs.Prelude.{ℕ, ◌+◌, ◌-◌, ◌*◌, ◌/◌, ◌==◌, Bool, if◌then◌else◌, List, [], ◌∷◌, ℤ, pos, ◌+ℤ◌, ◌*ℤ◌, Option, Some, option_map, ◌≡◌, refl}
use Rattle.std.specs.Option.{option_and_then}
use Rattle.std.specs.List.{list_any}
use Rattle.case_table.specs.declared.unit.PartOf.{PartOf}
use Rattle.case_table.specs.declared.unit.PartOf.TheVariants as part
use Rattle.case_table.specs.declared.unit.Unit.TheVariants as unit
use Rattle.case_table.specs.TimeUnits.{UnitRule}
use Rattle.time_calc.specs.declared.calendar.Date.{Date}
use Rattle.time_calc.specs.declared.instants.TimeOfDay.{TimeOfDay}
use Rattle.time_calc.specs.Calendar.{day_of_date, day_count, date_of_count, greatest_passing, days_before_year, days_of_months, weekday_of}
use Rattle.time_calc.specs.Instants.{day_length, instant_at, instant_number, since_midnight, day_of_instant, time_of_instant}
use Rattle.time_calc.specs.Boundaries.{date_at}
use Rattle.time_calc.specs.NextBoundary.{next_boundary}

-- the number of a part among the parts
abbrev pub part_number : PartOf → ℕ
part_number part.Year = 0
part_number part.Quarter = 1
part_number part.Month = 2
part_number part.Date = 3
part_number part.Day = 4
part_number part.Hours = 5
part_number part.Minutes = 6
part_number part.Seconds = 7
part_number part.Milliseconds = 8

-- a part is one of those that are kept
abbrev pub keeps : List PartOf → PartOf → Bool
keeps kept p = list_any (λ k. part_number k == part_number p) kept

-- what is kept of a number, and what stands in its place where it isn't kept
abbrev pub kept_or : List PartOf → PartOf → ℕ → ℕ → ℕ
kept_or kept p number otherwise = if keeps kept p then number else otherwise

-- the first month of the quarter of a month, months counted from 1
abbrev pub first_of_quarter : ℕ → ℕ
first_of_quarter month = (month - 1) / 3 * 3 + 1

-- the first of the month that is kept of a date; parts that aren't kept are those of January 2012
abbrev pub kept_month : List PartOf → Date → Date
kept_month kept d = record {
  year = kept_or kept part.Year d.year 2012;
  month = kept_or kept part.Month d.month (kept_or kept part.Quarter (first_of_quarter d.month) 1);
  day = 1;
}

-- how many days after the first of its month a time unit begins: by the date, by the weekday, or none
abbrev pub kept_days : List PartOf → Date → ℕ → ℕ
kept_days kept d weekday = kept_or kept part.Date (d.day - 1) (kept_or kept part.Day weekday 0)

-- the time of day that is kept; parts that aren't are zero
abbrev pub kept_time : List PartOf → TimeOfDay → TimeOfDay
kept_time kept t = record {
  hours = kept_or kept part.Hours t.hours 0;
  minutes = kept_or kept part.Minutes t.minutes 0;
  seconds = kept_or kept part.Seconds t.seconds 0;
  milliseconds = kept_or kept part.Milliseconds t.milliseconds 0;
}

-- the day on which a time unit begins, and the milliseconds since midnight at which it does
abbrev pub start_day : List PartOf → ℤ → ℤ
start_day kept instant =
    day_of_date (kept_month kept (date_at instant)) +ℤ pos (kept_days kept (date_at instant) (weekday_of (day_of_instant instant)))

abbrev pub start_time : List PartOf → ℤ → ℕ
start_time kept instant = since_midnight (kept_time kept (time_of_instant instant))

-- the start of a time unit at an instant: the parts that it keeps, and those of 2012-01-01T00:00:00Z in place of the others
unfoldable pub start_of : List PartOf → ℤ → ℤ
start_of kept instant = start_day kept instant *ℤ pos day_length +ℤ pos (start_time kept instant)

-- the start of a time unit at an instant, and its end, the next boundary of the smallest unit that it keeps
abbrev pub ends_of : UnitRule → ℤ → Option (ℤ × ℤ)
ends_of rule instant = option_map (λ end. (start_of rule.kept instant, end)) (next_boundary rule.smallest 1 (start_of rule.kept instant))

-- the same of the instant for which a number stands, as numbers; none where it stands for none
abbrev pub span_of : UnitRule → ℤ → Option (ℤ × ℤ)
span_of rule number =
    option_map (λ ends. (instant_number ends.0, instant_number ends.1)) (option_and_then (ends_of rule) (instant_at number))

-- ---- worked examples: 2024-02-29T13:00Z

abbrev leap_day_at_13 : ℤ
leap_day_at_13 = pos 1709211600000

by_month : ends_of (record { kept = part.Month ∷ []; smallest = unit.Month; label = [] }) leap_day_at_13 ≡ Some (pos 1328054400000, pos 1330560000000)
unfolding start_of next_boundary day_of_instant time_of_instant weekday_of day_count date_of_count greatest_passing days_before_year days_of_months
by_month = refl

abbrev yearmonth : UnitRule
yearmonth = record { kept = part.Year ∷ part.Month ∷ []; smallest = unit.Month; label = [] }

by_yearmonth : ends_of yearmonth leap_day_at_13 ≡ Some (pos 1706745600000, pos 1709251200000)
unfolding start_of next_boundary day_of_instant time_of_instant weekday_of day_count date_of_count greatest_passing days_before_year days_of_months
by_yearmonth = refl

by_date : ends_of (record { kept = part.Date ∷ []; smallest = unit.Day; label = [] }) leap_day_at_13 ≡ Some (pos 1327795200000, pos 1327881600000)
unfolding start_of next_boundary day_of_instant time_of_instant weekday_of day_count date_of_count greatest_passing days_before_year days_of_months
by_date = refl

by_day : ends_of (record { kept = part.Day ∷ []; smallest = unit.Day; label = [] }) leap_day_at_13 ≡ Some (pos 1325721600000, pos 1325808000000)
unfolding start_of next_boundary day_of_instant time_of_instant weekday_of day_count date_of_count greatest_passing days_before_year days_of_months
by_day = refl
