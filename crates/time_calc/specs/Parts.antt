-- The parts of an instant.
use Rattle.std.specs.Prelude.{ℕ, ◌+◌, ◌-◌, ◌/◌, ℤ, pos, ◌*ℤ◌, Option, Some, option_map, ◌≡◌, refl}
use Rattle.fixed_num.specs.Number.{million}
use Rattle.case_table.specs.declared.unit.PartOf.{PartOf}
use Rattle.case_table.specs.declared.unit.PartOf.TheVariants.{Year, Quarter, Month, Date, Day, Hours, Minutes, Seconds, Milliseconds}
use Rattle.time_calc.specs.Calendar.{date_of_day, weekday_of, date_of_count, greatest_passing, days_before_year, days_of_months}
use Rattle.time_calc.specs.Instants.{instant_at, day_of_instant, time_of_instant, instant_number, first_instant, last_instant}

-- a part of an instant: the quarter from 1, the month from 0, the date the day of the month, the day that of the week from Sunday 0
abbrev pub part_of : ℤ → PartOf → ℕ
part_of instant Year = (date_of_day (day_of_instant instant)).year
part_of instant Quarter = ((date_of_day (day_of_instant instant)).month - 1) / 3 + 1
part_of instant Month = (date_of_day (day_of_instant instant)).month - 1
part_of instant Date = (date_of_day (day_of_instant instant)).day
part_of instant Day = weekday_of (day_of_instant instant)
part_of instant Hours = (time_of_instant instant).hours
part_of instant Minutes = (time_of_instant instant).minutes
part_of instant Seconds = (time_of_instant instant).seconds
part_of instant Milliseconds = (time_of_instant instant).milliseconds

-- a part of the instant for which a number stands, as a number; none where the number is out of range
abbrev pub part : ℤ → PartOf → Option ℤ
part number p = option_map (λ instant. pos (part_of instant p) *ℤ pos million) (instant_at number)

the_month_of_a_leap_day : part (instant_number (pos 1709164800000)) Month ≡ Some (pos 1000000)
unfolding day_of_instant date_of_count greatest_passing days_before_year days_of_months
the_month_of_a_leap_day = refl

the_first_year : part (instant_number first_instant) Year ≡ Some (pos 1000000)
unfolding day_of_instant date_of_count greatest_passing days_before_year days_of_months
the_first_year = refl

the_last_year : part (instant_number last_instant) Year ≡ Some (pos 9998000000)
unfolding day_of_instant date_of_count greatest_passing days_before_year days_of_months
the_last_year = refl
