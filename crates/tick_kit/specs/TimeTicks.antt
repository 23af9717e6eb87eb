-- Ticks of instants: the boundaries, in a domain, of the interval between ticks.
use Rattle.std.specs.Prelude.{ℕ, ◌&&◌, Bool, true, if◌then◌else◌, ℤ, pos, ◌+ℤ◌, ◌≤ℤ◌, int_lt, List, [], ◌∷◌, filter, ◌≡◌, refl}
use Rattle.std.specs.Int.{int_div_euclid}
use Rattle.fixed_num.specs.Number.{million, ceiled, floored, floor_quotient}
use Rattle.case_table.specs.declared.unit.Unit.{Unit}
use Rattle.case_table.specs.declared.unit.Unit.TheVariants.{Month}
use Rattle.time_calc.specs.Instants.{instant_number, day_of_instant, time_of_instant}
pub use Rattle.time_calc.specs.Datetime.{is_whole}
use Rattle.time_calc.specs.Calendar.{date_of_count, greatest_passing, days_before_year, days_of_months}
use Rattle.time_calc.specs.Boundaries.{is_boundary}
use Rattle.tick_kit.specs.Steps.{span_of, spaced}
use Rattle.tick_kit.specs.Intervals.{interval_of}
use Rattle.tick_kit.specs.Ticks.{multiples_in, AreAll}

-- the whole milliseconds of a number, below it where it has a fraction
abbrev pub whole_milliseconds : ℤ → ℤ
whole_milliseconds number = int_div_euclid number (pos million)

-- a number is that of a boundary of n units
unfoldable pub is_boundary_number : Unit → ℕ → ℤ → Bool
is_boundary_number unit n number = is_whole number && is_boundary unit n (whole_milliseconds number)

-- the numbers of the whole milliseconds in a domain, ascending
abbrev pub milliseconds_in : ℤ × ℤ → List ℤ
milliseconds_in domain = multiples_in (pos million) domain

-- all boundaries of n units that lie in a domain, ascending
unfoldable pub boundaries_in : Unit → ℕ → ℤ × ℤ → List ℤ
boundaries_in unit n domain = filter (is_boundary_number unit n) (milliseconds_in domain)

-- the ticks of a domain of instants: all boundaries of the unit and multiple chosen for so many ticks that lie in it, ascending; one point
-- is its own tick
unfoldable pub time_ticks_of : ℕ → ℤ × ℤ → List ℤ
time_ticks_of count domain =
    if int_lt domain.0 domain.1 then boundaries_in (interval_of (span_of domain) count).0 (interval_of (span_of domain) count).1 domain
    else domain.0 ∷ []

-- ---- what lists of ticks are

-- a number is that of a boundary of n units in a domain
pub record IsBoundaryIn (unit : Unit) (n : ℕ) (domain : ℤ × ℤ) (z : ℤ) : Type 0 where
  pub instant : ℤ
  pub number : z ≡ instant_number instant
  pub boundary : is_boundary unit n instant ≡ true
  pub not_below : domain.0 ≤ℤ z
  pub not_above : z ≤ℤ domain.1

-- the boundaries in a domain are all boundaries in it
abbrev pub BoundariesAreAll : Type 0
BoundariesAreAll = (unit : Unit) (n : ℕ) (domain : ℤ × ℤ) → domain.0 ≤ℤ domain.1 → AreAll (IsBoundaryIn unit n domain) (boundaries_in unit n domain)

-- ---- worked examples

tenths_of_a_second : time_ticks_of 2 (instant_number (pos 1706745600000), instant_number (pos 1706745600200))
    ≡ instant_number (pos 1706745600000) ∷ instant_number (pos 1706745600100) ∷ instant_number (pos 1706745600200) ∷ []
unfolding time_ticks_of boundaries_in is_boundary_number multiples_in interval_of spaced is_boundary ceiled floored floor_quotient
tenths_of_a_second = refl

-- from a millisecond before March 2024 to half a millisecond past its begin
the_first_of_a_month : boundaries_in Month 1 (instant_number (pos 1709251199999), instant_number (pos 1709251200000) +ℤ pos 500000)
    ≡ instant_number (pos 1709251200000) ∷ []
unfolding boundaries_in is_boundary_number multiples_in is_boundary day_of_instant time_of_instant date_of_count greatest_passing
    days_before_year days_of_months ceiled floored floor_quotient
the_first_of_a_month = refl
