-- The instant of a year, a month and further parts, which roll over where they are past their range.
use Rattle.std.specs.Prelude.{ℕ, ◌+◌, ◌%◌, ◌==◌, Bool, [], ◌∷◌, if◌then◌else◌, ℤ, pos, negsuc, ◌+ℤ◌, ◌-ℤ◌, ◌*ℤ◌, unsigned_abs, Option, Some, None, ◌≡◌, refl}
use Rattle.std.specs.Int.{int_div_euclid, int_rem_euclid}
use Rattle.std.specs.Option.{option_and_then}
use Rattle.std.specs.List.{list_all}
use Rattle.fixed_num.specs.Number.{million}
use Rattle.time_calc.specs.Calendar.{day_of_date, day_count, days_before_year, days_of_months}
use Rattle.time_calc.specs.Instants.{day_length, is_in_range, instant_in_range}

-- a number of millionths is a whole number
abbrev pub is_whole : ℤ → Bool
is_whole number = unsigned_abs number % million == 0

-- the whole number of so many millionths
unfoldable pub whole_of : ℤ → ℤ
whole_of number = int_div_euclid number (pos million)

-- the first day of a month, counted from 1, and none where it is out of the range of instants
unfoldable pub first_day : ℤ → ℕ → Option ℤ
first_day (pos year) month =
    let day = day_of_date (record { year = year; month = month; day = 1 }) in
    if is_in_range (day *ℤ pos day_length) then Some day else None
first_day (negsuc n) month = None

-- the first day of a month of a year, the month counted from 0 and carried into years where it is past December or before January
abbrev pub first_of_month : ℤ → ℤ → Option ℤ
first_of_month year month = first_day (year +ℤ int_div_euclid month (pos 12)) (unsigned_abs (int_rem_euclid month (pos 12)) + 1)

-- the seconds of so many hours, minutes and seconds
abbrev pub seconds_of : ℤ → ℤ → ℤ → ℤ
seconds_of hours minutes seconds = hours *ℤ pos 3600 +ℤ minutes *ℤ pos 60 +ℤ seconds

-- the milliseconds of so many hours, minutes, seconds and milliseconds
abbrev pub milliseconds_of : ℤ → ℤ → ℤ → ℤ → ℤ
milliseconds_of hours minutes seconds milliseconds = seconds_of hours minutes seconds *ℤ pos 1000 +ℤ milliseconds

-- the instant `date - 1` days and so many milliseconds after the start of a day
abbrev pub instant_after : ℤ → ℤ → ℤ → ℤ
instant_after day date milliseconds = (day +ℤ date -ℤ pos 1) *ℤ pos day_length +ℤ milliseconds

-- the instant of whole parts: that of the first of the month, and the further parts after it; none where one of them is out of range
abbrev pub instant_of_wholes : ℤ → ℤ → ℤ → ℤ → ℤ → ℤ → ℤ → Option ℤ
instant_of_wholes year month date hours minutes seconds milliseconds =
    option_and_then (λ day. instant_in_range (instant_after day date (milliseconds_of hours minutes seconds milliseconds)))
    (first_of_month year month)

-- the instant of parts, as a number; none where a part is no whole number, or the first of the month or the instant is out of range
abbrev pub instant_of : ℤ → ℤ → ℤ → ℤ → ℤ → ℤ → ℤ → Option ℤ
instant_of year month date hours minutes seconds milliseconds =
    if list_all is_whole (year ∷ month ∷ date ∷ hours ∷ minutes ∷ seconds ∷ milliseconds ∷ []) then
    instant_of_wholes (whole_of year) (whole_of month) (whole_of date) (whole_of hours) (whole_of minutes) (whole_of seconds)
    (whole_of milliseconds)
    else None

-- ---- worked examples

the_29th_of_February_2023 : instant_of_wholes (pos 2023) (pos 1) (pos 29) (pos 0) (pos 0) (pos 0) (pos 0) ≡ Some (pos 1677628800000000000)
unfolding first_day day_count days_before_year days_of_months
the_29th_of_February_2023 = refl

the_month_before_January_of_the_year_1 : instant_of_wholes (pos 1) (negsuc 0) (pos 40) (pos 0) (pos 0) (pos 0) (pos 0) ≡ None
unfolding first_day day_count days_before_year days_of_months
the_month_before_January_of_the_year_1 = refl

a_month_of_a_far_year : instant_of_wholes (pos 1000000000000000) (pos 0) (pos 1) (pos 0) (pos 0) (pos 0) (pos 0) ≡ None
unfolding first_day day_count days_before_year days_of_months
a_month_of_a_far_year = refl

half_a_year : instant_of (pos 2023500000) (pos 0) (pos 1000000) (pos 0) (pos 0) (pos 0) (pos 0) ≡ None
half_a_year = refl
