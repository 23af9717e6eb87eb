-- What holds of the calendar, whatever the dates.
use Rattle.std.specs.Prelude.{ℕ, ◌+◌, ℤ, pos, neg_ℤ, ◌≤ℤ◌, ◌≡◌, IsTrue}
use Rattle.time_calc.specs.declared.calendar.Date.{Date}
use Rattle.time_calc.specs.Calendar.{days_of_year, days_before_year, days_before_1970, is_date, day_of_date, date_of_day, is_leap, days_of_months}

-- a year begins so many days after the year before it as that has
abbrev pub YearsFollow : Type 0
YearsFollow = (year : ℕ) → days_before_year (year + 1) ≡ days_before_year year + days_of_year year

-- a year has as many days as its twelve months
abbrev pub MonthsMakeTheYear : Type 0
MonthsMakeTheYear = (year : ℕ) → days_of_months (is_leap year) 12 ≡ days_of_year year

-- a date is the date of its day
abbrev pub DateOfItsDay : Type 0
DateOfItsDay = (d : Date) → IsTrue (is_date d) → date_of_day (day_of_date d) ≡ d

-- the calendar has the date of each day from the year 0 on
abbrev pub DaysHaveDates : Type 0
DaysHaveDates = (day : ℤ) → neg_ℤ (pos days_before_1970) ≤ℤ day → IsTrue (is_date (date_of_day day))

-- the day of the date of a day is that day
abbrev pub DayOfItsDate : Type 0
DayOfItsDate = (day : ℤ) → neg_ℤ (pos days_before_1970) ≤ℤ day → day_of_date (date_of_day day) ≡ day
