-- Instants: whole milliseconds since 1970-01-01T00:00Z, as days and times of day.
use Rattle.std.specs.Prelude.{ℕ, ◌+◌, ◌*◌, ◌/◌, ◌%◌, ◌&&◌, nat_le, Bool, if◌then◌else◌, ℤ, pos, negsuc, neg_ℤ, ◌+ℤ◌, ◌*ℤ◌, unsigned_abs}
use Rattle.std.specs.Prelude.{Option, Some, None, ◌≡◌, refl}
use Rattle.std.specs.Int.{int_div_euclid, int_rem_euclid}
use Rattle.fixed_num.specs.Number.{million}
pub use Rattle.fixed_num.specs.Ranges.{is_within}
use Rattle.time_calc.specs.declared.instants.TimeOfDay.{TimeOfDay}

-- the milliseconds of a day
abbrev pub day_length : ℕ
day_length = 86400000

-- 0001-01-01T00:00:00.000Z
abbrev pub first_instant : ℤ
first_instant = neg_ℤ (pos 62135596800000)

-- 9998-12-31T23:59:59.999Z
abbrev pub last_instant : ℤ
last_instant = pos 253370764799999

-- an instant is in range
abbrev pub is_in_range : ℤ → Bool
is_in_range instant = is_within first_instant last_instant instant

-- the number of an instant, in millionths of a millisecond
abbrev pub instant_number : ℤ → ℤ
instant_number instant = instant *ℤ pos million

-- the number of an instant, and none where it is out of range
abbrev pub instant_in_range : ℤ → Option ℤ
instant_in_range instant = if is_in_range instant then Some (instant_number instant) else None

-- a number stands for an instant in range: it is itself not below the first and not above the last
abbrev pub stands_for_instant : ℤ → Bool
stands_for_instant number = is_within (instant_number first_instant) (instant_number last_instant) number

-- the instant for which a number stands: its whole milliseconds, below it where it has a fraction; none where it is out of range
abbrev pub instant_at : ℤ → Option ℤ
instant_at number = if stands_for_instant number then Some (int_div_euclid number (pos million)) else None

-- a time of day on a clock of 24 hours
abbrev pub is_time : TimeOfDay → Bool
is_time t = nat_le t.hours 23 && nat_le t.minutes 59 && nat_le t.seconds 59 && nat_le t.milliseconds 999

-- the milliseconds of a time of day since midnight
abbrev pub since_midnight : TimeOfDay → ℕ
since_midnight t = t.hours * 3600000 + t.minutes * 60000 + t.seconds * 1000 + t.milliseconds

-- the instant of a day, counted from 1 January 1970, and a time of day
unfoldable pub instant_of_day : ℤ → TimeOfDay → ℤ
instant_of_day day t = day *ℤ pos day_length +ℤ pos (since_midnight t)

-- the day of an instant
unfoldable pub day_of_instant : ℤ → ℤ
day_of_instant instant = int_div_euclid instant (pos day_length)

-- the time of day so many milliseconds after midnight
abbrev pub time_after_midnight : ℕ → TimeOfDay
time_after_midnight n = record { hours = n / 3600000; minutes = n / 60000 % 60; seconds = n / 1000 % 60; milliseconds = n % 1000 }

-- the time of day of an instant
unfoldable pub time_of_instant : ℤ → TimeOfDay
time_of_instant instant = time_after_midnight (unsigned_abs (int_rem_euclid instant (pos day_length)))

-- ---- worked examples

half_a_millisecond_before_1970 : instant_at (negsuc 499999) ≡ Some (negsuc 0)
half_a_millisecond_before_1970 = refl

half_a_millisecond_past_the_end : instant_at (instant_number last_instant +ℤ pos 500000) ≡ None
half_a_millisecond_past_the_end = refl

the_last_millisecond_of_1969 : (day_of_instant (negsuc 0) ≡ negsuc 0)
    × (time_of_instant (negsuc 0) ≡ record { hours = 23; minutes = 59; seconds = 59; milliseconds = 999 })
unfolding day_of_instant time_of_instant
the_last_millisecond_of_1969 = (refl, refl)
