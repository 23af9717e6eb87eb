-- The instant that a text gives. The letters of forms stand by their codes: Y 89, M 77, D 68, B 66, h 104, m 109, s 115, i 105, j 106,
-- k 107, p 112, q 113, u 117, v 118.
use Rattle.std.specs.Prelude.{ℕ, ◌+◌, ◌*◌, ◌==◌, ◌&&◌, nat_le, Bool, if◌then◌else◌, List, [], ◌∷◌, take, slice_index, codes, ℤ, pos, negsuc}
use Rattle.std.specs.Prelude.{◌-ℤ◌, Option, Some, None, option_map, ◌≡◌, refl}
use Rattle.std.specs.Option.{option_and_then}
use Rattle.std.specs.List.{list_any}
use Rattle.case_table.specs.Names.{index_of}
use Rattle.time_calc.specs.declared.calendar.Date.{Date}
use Rattle.time_calc.specs.declared.instants.TimeOfDay.{TimeOfDay}
use Rattle.time_calc.specs.Calendar.{is_date, day_of_date, day_count, days_before_year, days_of_months}
use Rattle.time_calc.specs.Instants.{is_time, instant_of_day, instant_in_range}
use Rattle.time_calc.specs.Forms.{value, instant_form, under}

abbrev pub month_names : List (List ℕ)
month_names =
    codes "Jan" ∷ codes "Feb" ∷ codes "Mar" ∷ codes "Apr" ∷ codes "May" ∷ codes "Jun" ∷
    codes "Jul" ∷ codes "Aug" ∷ codes "Sep" ∷ codes "Oct" ∷ codes "Nov" ∷ codes "Dec" ∷ []

-- the number that the digits of a letter make, and 1 where the form lacks the letter
abbrev pub value_or_one : ℕ → List ℕ → List ℕ → ℕ
value_or_one letter form text = if list_any (λ f. f == letter) form then value letter form text else 1

-- the month, counted from 1: by its name where one stands at the front, else by its digits M
unfoldable pub month_by : List ℕ → List ℕ → Option ℕ
month_by form text =
    if slice_index form 0 == 66 then option_map (λ index. index + 1) (index_of month_names (take 3 text))
    else Some (value_or_one 77 form text)

-- the calendar's date of a year, a month and a day
abbrev pub checked_date : ℕ → ℕ → ℕ → Option Date
checked_date year month day =
    if is_date (record { year = year; month = month; day = day }) then Some (record { year = year; month = month; day = day }) else None

-- the date that a text of a form gives
unfoldable pub date_by : List ℕ → List ℕ → Option Date
date_by form text = option_and_then (λ month. checked_date (value 89 form text) month (value_or_one 68 form text)) (month_by form text)

-- the time of day by its hours, minutes and seconds, and milliseconds by their three digits
abbrev pub time_under : List ℕ → List ℕ → TimeOfDay
time_under form text = record {
  hours = value 104 form text;
  minutes = value 109 form text;
  seconds = value 115 form text;
  milliseconds = 100 * value 105 form text + 10 * value 106 form text + value 107 form text;
}

-- the time of day that a text of a form gives
unfoldable pub time_by : List ℕ → List ℕ → Option TimeOfDay
time_by form text = if is_time (time_under form text) then Some (time_under form text) else None

-- a zone is at most 23:59 away from UTC
abbrev pub is_offset : ℕ → ℕ → Bool
is_offset hours minutes = nat_le hours 23 && nat_le minutes 59

-- the milliseconds of so many hours and minutes
abbrev pub offset_of : ℕ → ℕ → ℕ
offset_of hours minutes = hours * 3600000 + minutes * 60000

-- the milliseconds by which the zone of a text of a form is ahead of UTC
unfoldable pub zone_by : List ℕ → List ℕ → Option ℤ
zone_by form text =
    if is_offset (value 112 form text) (value 113 form text) && is_offset (value 117 form text) (value 118 form text)
    then Some (pos (offset_of (value 112 form text) (value 113 form text)) -ℤ pos (offset_of (value 117 form text) (value 118 form text)))
    else None

-- the number of the instant of a date, a time of day and a zone, and none where the instant is out of range
abbrev pub number_at : Date → TimeOfDay → ℤ → Option ℤ
number_at date time zone = instant_in_range (instant_of_day (day_of_date date) time -ℤ zone)

-- the instant that a text of a form gives, as a number
unfoldable pub instant_by : List ℕ → List ℕ → Option ℤ
instant_by form text =
    option_and_then (λ date.
    option_and_then (λ time.
    option_and_then (number_at date time) (zone_by form text)) (time_by form text)) (date_by form text)

-- the instant that a text gives, as a number
unfoldable pub read_instant : List ℕ → Option ℤ
read_instant text = option_and_then (λ form. instant_by form text) (instant_form text)

-- ---- worked examples

a_leap_day : read_instant (codes "2024-02-29") ≡ Some (pos 1709164800000000000)
unfolding read_instant instant_form instant_by date_by time_by zone_by month_by under instant_of_day day_count days_before_year days_of_months
a_leap_day = refl

no_leap_day : read_instant (codes "1900-02-29") ≡ None
unfolding read_instant instant_form instant_by date_by time_by zone_by month_by under instant_of_day day_count days_before_year days_of_months
no_leap_day = refl

a_month_by_name : read_instant (codes "Mar 1 1970") ≡ Some (pos 5097600000000000)
unfolding read_instant instant_form instant_by date_by time_by zone_by month_by under instant_of_day day_count days_before_year days_of_months
a_month_by_name = refl

a_zone_behind : read_instant (codes "0000-12-31T23:59:59.9999-00:01") ≡ Some (negsuc 62135596740000999999)
unfolding read_instant instant_form instant_by date_by time_by zone_by month_by under instant_of_day day_count days_before_year days_of_months
a_zone_behind = refl
