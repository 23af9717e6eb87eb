-- Labels of instants as ticks.
use Rattle.std.specs.Prelude.{ℕ, ◌==◌, not, if◌then◌else◌, ℤ, pos, List, [], codes, Result, Ok, Err, ◌≡◌, refl}
use Rattle.std.specs.Str.{chars}
use Rattle.std.specs.Char.{encode_utf8}
use Rattle.time_calc.specs.declared.labels.LabelError.{LabelError}
use Rattle.time_calc.specs.Instants.{instant_number, day_of_instant, time_of_instant}
use Rattle.time_calc.specs.Calendar.{date_of_count, greatest_passing, days_before_year, days_of_months, weekday_of}
use Rattle.time_calc.specs.Boundaries.{begins_second, begins_minute, begins_hour, begins_day, begins_month, month_from_0}
use Rattle.time_calc.specs.Labels.{label, pieces, directive_of, digits}
use Rattle.tick_kit.specs.TimeTicks.{whole_milliseconds}

-- the pattern of an instant's label: the greatest unit that it doesn't begin decides
abbrev pub default_pattern : ℤ → List ℕ
default_pattern instant =
    if not (begins_second instant) then codes ".%L"
    else (if not (begins_minute instant) then codes ":%S"
    else (if not (begins_hour instant) then codes "%I:%M"
    else (if not (begins_day instant) then codes "%I %p"
    else (if not (begins_month instant) then (if weekday_of (day_of_instant instant) == 0 then codes "%b %d" else codes "%a %d")
    else (if month_from_0 instant == 0 then codes "%Y" else codes "%B")))))

-- what is labelled, and nothing for a fault
abbrev pub text_or_nothing : Result (List ℕ) LabelError → List ℕ
text_or_nothing (Ok text) = text
text_or_nothing (Err fault) = []

-- the label of an instant's number as a tick; each default pattern has a label
unfoldable pub time_label : ℤ → List ℕ
time_label number = text_or_nothing (label number (default_pattern (whole_milliseconds number)))

-- ---- worked examples

-- the number of so many milliseconds
abbrev at : ℕ → ℤ
at n = instant_number (pos n)

from_february_to_may : (time_label (at 1706745600000) ≡ codes "February") × (time_label (at 1714521600000) ≡ codes "May")
unfolding time_label pieces directive_of chars encode_utf8 digits day_of_instant time_of_instant date_of_count
    greatest_passing days_before_year days_of_months
from_february_to_may = (refl, refl)

the_last_days_of_february : (time_label (at 1709078400000) ≡ codes "Wed 28") × (time_label (at 1709164800000) ≡ codes "Thu 29")
unfolding time_label pieces directive_of chars encode_utf8 digits day_of_instant time_of_instant date_of_count
    greatest_passing days_before_year days_of_months weekday_of
the_last_days_of_february = (refl, refl)

the_first_second : (time_label (at 0) ≡ codes "1970") × (time_label (at 200) ≡ codes ".200") × (time_label (at 1000) ≡ codes ":01")
unfolding time_label pieces directive_of chars encode_utf8 digits day_of_instant time_of_instant date_of_count
    greatest_passing days_before_year days_of_months weekday_of
the_first_second = (refl, refl, refl)

a_sunday : time_label (at 1708819200000) ≡ codes "Feb 25"
unfolding time_label pieces directive_of chars encode_utf8 digits day_of_instant time_of_instant date_of_count
    greatest_passing days_before_year days_of_months weekday_of
a_sunday = refl

on_a_clock : (time_label (at 43200000) ≡ codes "12 PM") × (time_label (at 5400000) ≡ codes "01:30")
unfolding time_label pieces directive_of chars encode_utf8 digits day_of_instant time_of_instant date_of_count
    greatest_passing days_before_year days_of_months weekday_of
on_a_clock = (refl, refl)
