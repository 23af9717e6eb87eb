-- Marks of units before others, rolled up.
use Rattle.std.proofs.Common.{◌≡◌, ℕ, Option, Some, None, List, [], ◌∷◌, ◌++◌, refl}
use Rattle.std.specs.Option.{option_map_or}
use Rattle.plan_kit.specs.declared.plans.UnitPlan.{UnitPlan}
use Rattle.plan_kit.specs.declared.scales.ScalePlan.{ScalePlan}
use Rattle.vega_assemble.specs.Made.{Made, NoMarks, rolled}
use Rattle.vega_assemble.specs.Marks.{in_series, unit_before}

series_behind : (stem : List ℕ) (scales : List ScalePlan) (u : UnitPlan) (series : List (List ℕ)) (others : Made)
    → rolled (in_series stem scales u series others) ≡ rolled (in_series stem scales u series NoMarks) ++ rolled others
series_behind stem scales u [] others = refl
series_behind stem scales u (first ∷ more) others = refl

pub unit_behind : (stem : List ℕ) (scales : List ScalePlan) (u : UnitPlan) (others : Made)
    → rolled (unit_before stem scales u others) ≡ rolled (unit_before stem scales u NoMarks) ++ rolled others
unit_behind stem scales u others = series_behind stem scales u u.mark.series others

-- the mark of a unit that may be there
pub found_behind : (stem : List ℕ) (scales : List ScalePlan) (found : Option UnitPlan) (others : Made)
    → rolled (option_map_or (λ u. unit_before stem scales u others) found others)
    ≡ rolled (option_map_or (λ u. unit_before stem scales u NoMarks) found NoMarks) ++ rolled others
found_behind stem scales None others = refl
found_behind stem scales (Some u) others = unit_behind stem scales u others
