-- Intervals between ticks of instants, by the span of a domain in millionths of a millisecond.
use Rattle.std.specs.Prelude.{ℕ, ◌*◌, ◌/◌, nat_lt, max, Bool, Option, Some, None, List, [], ◌∷◌, if◌then◌else◌, ◌≡◌, refl}
use Rattle.fixed_num.specs.Number.{million}
use Rattle.case_table.specs.declared.unit.Unit.{Unit}
use Rattle.case_table.specs.declared.unit.Unit.TheVariants.{Millisecond, Second, Minute, Hour, Day, Week, Month, Year}
use Rattle.tick_kit.specs.declared.intervals.Interval.{Interval}
use Rattle.tick_kit.specs.Steps.{spaced}

-- so many units, taken to be so many milliseconds long
abbrev pub every : ℕ → Unit → ℕ → Interval
every count unit length = record { unit = unit; count = count; length = length }

-- the milliseconds of a second, and of a year of 365 days
abbrev pub second_length : ℕ
second_length = 1000

abbrev pub year_length : ℕ
year_length = 31536000000

abbrev pub one_second : Interval
one_second = every 1 Second second_length

-- the intervals that are longer than a second, up to a year; months have 30 days
abbrev pub longer_intervals : List Interval
longer_intervals =
    every 5 Second 5000 ∷ every 15 Second 15000 ∷ every 30 Second 30000 ∷
    every 1 Minute 60000 ∷ every 5 Minute 300000 ∷ every 15 Minute 900000 ∷ every 30 Minute 1800000 ∷
    every 1 Hour 3600000 ∷ every 3 Hour 10800000 ∷ every 6 Hour 21600000 ∷ every 12 Hour 43200000 ∷
    every 1 Day 86400000 ∷ every 2 Day 172800000 ∷ every 1 Week 604800000 ∷
    every 1 Month 2592000000 ∷ every 3 Month 7776000000 ∷ every 1 Year year_length ∷ []

-- the spacing span / count is below a length
abbrev pub is_below : ℕ → ℕ → ℕ → Bool
is_below span count length = nat_lt span (length * (million * count))

-- the square of the spacing is below the product of two lengths
abbrev pub is_nearer_first : ℕ → ℕ → ℕ → ℕ → Bool
is_nearer_first span count a b = nat_lt (span * span) (a * b * (million * count * (million * count)))

-- of the neighbours between which the spacing lies, the one that it is nearer to
abbrev pub nearest_interval : ℕ → ℕ → Interval → List Interval → Interval
nearest_interval span count a [] = a
nearest_interval span count a (b ∷ longer) =
    if is_below span count b.length then (if is_nearer_first span count a.length b.length then a else b) else nearest_interval span count b longer

-- the whole units of a step, at least one; each spacing has a step
abbrev pub whole_units : Option ℕ → ℕ
whole_units None = 1
whole_units (Some step) = max 1 (step / million)

-- an interval as a unit and how many
abbrev pub unit_and_count : Interval → Unit × ℕ
unit_and_count i = (i.unit, i.count)

-- the interval between so many ticks over a span: below a second the step in milliseconds, from a year on the
-- step in years
unfoldable pub interval_of : ℕ → ℕ → Unit × ℕ
interval_of span count =
    if is_below span count second_length then (Millisecond, whole_units (spaced span count))
    else (if is_below span count year_length then unit_and_count (nearest_interval span count one_second longer_intervals)
    else (Year, whole_units (spaced span (count * year_length))))

-- ---- worked examples

-- so many milliseconds, in millionths
abbrev milliseconds : ℕ → ℕ
milliseconds n = n * million

ninety_days_in_five : interval_of (milliseconds 7776000000) 5 ≡ (Month, 1)
unfolding interval_of spaced
ninety_days_in_five = refl

three_days_in_three : interval_of (milliseconds 259200000) 3 ≡ (Day, 1)
unfolding interval_of spaced
three_days_in_three = refl

a_second_in_five : interval_of (milliseconds 1000) 5 ≡ (Millisecond, 200)
unfolding interval_of spaced
a_second_in_five = refl

half_a_millisecond : interval_of 500000 5 ≡ (Millisecond, 1)
unfolding interval_of spaced
half_a_millisecond = refl

thirty_years_in_five : interval_of (milliseconds 946080000000) 5 ≡ (Year, 5)
unfolding interval_of spaced
thirty_years_in_five = refl
