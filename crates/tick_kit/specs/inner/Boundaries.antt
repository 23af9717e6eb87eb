-- Boundaries as the code finds them, one after another. No public clause cites this.
use Rattle.std.specs.Prelude.{ℕ, zero, suc, Bool, true, false, if◌then◌else◌, ℤ, pos, int_le, Option, Some, None, option_map, List, [], ◌∷◌, ◌++◌, ◌≡◌, refl}
use Rattle.std.specs.Option.{option_and_then}
use Rattle.case_table.specs.declared.unit.Unit.{Unit}
use Rattle.case_table.specs.declared.unit.Unit.TheVariants.{Month}
use Rattle.time_calc.specs.Instants.{instant_at, instant_number, day_of_instant, time_of_instant}
use Rattle.time_calc.specs.Calendar.{date_of_count, greatest_passing, days_before_year, days_of_months}
use Rattle.time_calc.specs.Boundaries.{is_boundary}
use Rattle.time_calc.specs.NextBoundary.{next_boundary}
use Rattle.tick_kit.specs.Steps.{span_of}
use Rattle.tick_kit.specs.TimeTicks.{is_boundary_number}

-- the number of the first boundary after the instant of a number
unfoldable pub following : Unit → ℕ → ℤ → Option ℤ
following unit n number = option_map instant_number (option_and_then (next_boundary unit n) (instant_at number))

-- a boundary and those after it, where it isn't past the end
abbrev pub up_to_end : Bool → ℤ → (ℤ → List ℤ) → List ℤ
up_to_end false b later = []
up_to_end true b later = b ∷ later b

abbrev pub up_to : ℤ → Option ℤ → (ℤ → List ℤ) → List ℤ
up_to high None later = []
up_to high (Some b) later = up_to_end (int_le b high) b later

-- the boundaries after a number and up to an end, at most so many
unfoldable pub boundaries_after : ℕ → Unit → ℕ → ℤ → ℤ → List ℤ
boundaries_after zero unit n high number = []
boundaries_after (suc most) unit n high number = up_to high (following unit n number) (boundaries_after most unit n high)

-- the boundaries of n units from one end of a domain to the other, of which there aren't more than the domain is long
unfoldable pub boundaries_on_the_way : Unit → ℕ → ℤ × ℤ → List ℤ
boundaries_on_the_way unit n domain =
    (if is_boundary_number unit n domain.0 then domain.0 ∷ [] else []) ++ boundaries_after (span_of domain) unit n domain.1 domain.0

-- a boundary that was found, and those after it
abbrev pub with_later : Option ℤ → (ℤ → List ℤ) → List ℤ
with_later None later = []
with_later (Some b) later = b ∷ later b

-- ---- worked examples

months_from_february_to_may : boundaries_on_the_way Month 1 (instant_number (pos 1706745600000), instant_number (pos 1714521600000))
    ≡ instant_number (pos 1706745600000) ∷ instant_number (pos 1709251200000) ∷ instant_number (pos 1711929600000)
    ∷ instant_number (pos 1714521600000) ∷ []
unfolding boundaries_on_the_way boundaries_after is_boundary_number following is_boundary next_boundary day_of_instant time_of_instant
    date_of_count greatest_passing days_before_year days_of_months
months_from_february_to_may = refl
