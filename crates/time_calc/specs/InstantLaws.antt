-- What holds of instants, whatever the days and times.
use Rattle.std.specs.Prelude.{ℤ, ◌≡◌, IsTrue}
use Rattle.time_calc.specs.declared.instants.TimeOfDay.{TimeOfDay}
use Rattle.time_calc.specs.Instants.{is_time, instant_of_day, day_of_instant, time_of_instant}

-- an instant is that of its day and its time of day, which a clock shows
pub record IsOfItsDay (instant : ℤ) : Type 0 where
  pub time : IsTrue (is_time (time_of_instant instant))
  pub whole : instant_of_day (day_of_instant instant) (time_of_instant instant) ≡ instant

abbrev pub InstantsAreOfTheirDays : Type 0
InstantsAreOfTheirDays = (instant : ℤ) → IsOfItsDay instant

-- the instant of a day and a time of day is on that day at that time
pub record IsOnItsDay (day : ℤ) (t : TimeOfDay) : Type 0 where
  pub on_day : day_of_instant (instant_of_day day t) ≡ day
  pub at_time : time_of_instant (instant_of_day day t) ≡ t

abbrev pub DaysHaveTimes : Type 0
DaysHaveTimes = (day : ℤ) (t : TimeOfDay) → IsTrue (is_time t) → IsOnItsDay day t
