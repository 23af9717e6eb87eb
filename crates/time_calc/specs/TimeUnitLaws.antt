-- What holds of time units, whatever the instants.
use Rattle.std.specs.Prelude.{ℕ, ℤ, ◌≤ℤ◌, Some, ◌≡◌}
use Rattle.case_table.specs.TimeUnits.{UnitRule, unit_rule}
use Rattle.time_calc.specs.Instants.{first_instant, last_instant}
use Rattle.time_calc.specs.Boundaries.{IsFirstBoundary}
use Rattle.time_calc.specs.TimeUnits.{start_of, ends_of}

-- a time unit has a start in range and an end at an instant, and the end is the first boundary of its smallest unit after the start
pub record IsWhole (rule : UnitRule) (instant : ℤ) : Type 0 where
  pub low : first_instant ≤ℤ start_of rule.kept instant
  pub high : start_of rule.kept instant ≤ℤ last_instant
  pub ends : (end : ℤ) × (ends_of rule instant ≡ Some (start_of rule.kept instant, end)) × IsFirstBoundary rule.smallest 1 (start_of rule.kept instant) end

-- a time unit is so at each instant in range
abbrev pub IsWholeInRange : UnitRule → Type 0
IsWholeInRange rule = (instant : ℤ) → first_instant ≤ℤ instant → instant ≤ℤ last_instant → IsWhole rule instant

abbrev pub TimeUnitsAreWhole : Type 0
TimeUnitsAreWhole = (code : ℕ) (rule : UnitRule) → unit_rule code ≡ Some rule → IsWholeInRange rule
