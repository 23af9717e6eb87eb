-- What each time unit is.
use Rattle.std.specs.Prelude.{ℕ, List, [], ◌∷◌, ◌++◌, Option, Some, None, slice_get, codes, ◌≡◌, refl}
use Rattle.std.specs.Option.{option_and_then}
use Rattle.case_table.specs.declared.unit.PartOf.{PartOf}
use Rattle.case_table.specs.declared.unit.PartOf.TheVariants as part
use Rattle.case_table.specs.declared.unit.Unit.{Unit}
use Rattle.case_table.specs.declared.unit.Unit.TheVariants as unit
use Rattle.case_table.specs.declared.time_units.TimeUnit.{TimeUnit}
use Rattle.case_table.specs.Names.{index_of, time_units}

-- the parts of an instant that a time unit keeps, the smallest unit that it keeps, and the pattern of its labels
pub record UnitRule : Type 0 where
  pub kept : List PartOf
  pub smallest : Unit
  pub label : List ℕ

-- the rule that a row of the code's table states
abbrev pub rule_of : TimeUnit → UnitRule
rule_of u = record { kept = u.kept.now; smallest = u.smallest; label = u.label.now }

abbrev keeps : List PartOf → Unit → List ℕ → UnitRule
keeps kept smallest label = record { kept = kept; smallest = smallest; label = label }

-- the rules of the time units, in the order of their names
abbrev pub unit_rules : List UnitRule
unit_rules =
    keeps (part.Year ∷ []) unit.Year (codes "%Y") ∷
    keeps (part.Year ∷ part.Quarter ∷ []) unit.Quarter (codes "%Y Q%q") ∷
    keeps (part.Quarter ∷ []) unit.Quarter (codes "Q%q") ∷
    keeps (part.Year ∷ part.Month ∷ []) unit.Month (codes "%b %Y") ∷
    keeps (part.Month ∷ []) unit.Month (codes "%b") ∷
    keeps (part.Year ∷ part.Month ∷ part.Date ∷ []) unit.Day (codes "%b %d, %Y") ∷
    keeps (part.Month ∷ part.Date ∷ []) unit.Day (codes "%b %d") ∷
    keeps (part.Date ∷ []) unit.Day (codes "%d") ∷
    keeps (part.Day ∷ []) unit.Day (codes "%a") ∷
    keeps (part.Year ∷ part.Month ∷ part.Date ∷ part.Hours ∷ []) unit.Hour (codes "%b %d, %Y %H:00") ∷
    keeps (part.Hours ∷ []) unit.Hour (codes "%H:00") ∷
    keeps (part.Year ∷ part.Month ∷ part.Date ∷ part.Hours ∷ part.Minutes ∷ []) unit.Minute (codes "%b %d, %Y %H:%M") ∷
    keeps (part.Hours ∷ part.Minutes ∷ []) unit.Minute (codes "%H:%M") ∷
    keeps (part.Minutes ∷ []) unit.Minute (codes "00:%M") ∷
    keeps (part.Year ∷ part.Month ∷ part.Date ∷ part.Hours ∷ part.Minutes ∷ part.Seconds ∷ []) unit.Second (codes "%b %d, %Y %H:%M:%S") ∷
    keeps (part.Seconds ∷ []) unit.Second (codes ":%S") ∷ []

-- what the time unit of a code is: a name with the prefix utc means what it means without; none where the code stands for none
abbrev pub unit_rule : ℕ → Option UnitRule
unit_rule code = slice_get (unit_rules ++ unit_rules) code

the_months_in_UTC : option_and_then unit_rule (index_of time_units (codes "utcmonth"))
    ≡ Some (record { kept = part.Month ∷ []; smallest = unit.Month; label = codes "%b" })
the_months_in_UTC = refl

the_days_of_the_week : option_and_then unit_rule (index_of time_units (codes "day"))
    ≡ Some (record { kept = part.Day ∷ []; smallest = unit.Day; label = codes "%a" })
the_days_of_the_week = refl

no_time_unit : unit_rule 32 ≡ None
no_time_unit = refl
