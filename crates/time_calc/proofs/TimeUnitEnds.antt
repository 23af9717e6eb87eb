-- Every time unit has an end.
use Rattle.std.proofs.Common.{◌≡◌, ℕ, zero, suc, Bool, true, false, refl, sym, ap, ◌∙◌, subst, arith, List, [], ◌∷◌, ◌++◌, ℤ, Option, Some}
use Rattle.std.proofs.Common.{None, option_map, slice_get}
use Rattle.std.specs.List.{list_all}
use Rattle.std.proofs.lemmas.Bool.{true≢false, and_parts}
use Rattle.std.proofs.lemmas.Int.{ints}
use Rattle.case_table.specs.declared.unit.Unit.{Unit}
use Rattle.case_table.specs.declared.unit.Unit.TheVariants.{Millisecond, Second, Minute, Hour, Day, Week, Month, Quarter, Year}
use Rattle.case_table.specs.TimeUnits.{UnitRule, unit_rule, unit_rules}
use Rattle.time_calc.specs.Calendar.{date_of_count, greatest_passing, days_before_year, days_of_months}
use Rattle.time_calc.specs.Instants.{instant_number, day_of_instant, time_of_instant}
use Rattle.time_calc.specs.Boundaries.{is_boundary, last_boundary, IsFirstBoundary, Follows}
use Rattle.time_calc.specs.NextBoundary.{next_boundary}
use Rattle.time_calc.specs.TimeUnits.{start_of}
use Rattle.time_calc.specs.TimeUnitLaws.{TimeUnitsAreWhole}
use Rattle.time_calc.proofs.BoundaryUnits.{IsInstant, next_is_first}
use Rattle.time_calc.proofs.TimeUnitLemmas.{start_is_instant}

-- a unit isn't the week
no_week : Unit → Bool
no_week Week = false
no_week _ = true

-- 9999 begins with a boundary of every unit but the week
begins_9999 : (unit : Unit) → no_week unit ≡ true → is_boundary unit 1 last_boundary ≡ true
unfolding is_boundary no_week day_of_instant time_of_instant date_of_count greatest_passing days_before_year days_of_months
begins_9999 Millisecond h = refl
begins_9999 Second h = refl
begins_9999 Minute h = refl
begins_9999 Hour h = refl
begins_9999 Day h = refl
begins_9999 Week h = absurd (true≢false (sym h))
begins_9999 Month h = refl
begins_9999 Quarter h = refl
begins_9999 Year h = refl

-- the end of a unit that begins at an instant in range
has_end : (unit : Unit) → no_week unit ≡ true → (i : ℤ) → IsInstant i → (end : ℤ) × (next_boundary unit 1 i ≡ Some end) × IsFirstBoundary unit 1 i end
has_end unit h i in_range = by (next_boundary unit 1 i) refl
  where
    by : (o : Option ℤ) → next_boundary unit 1 i ≡ o → (end : ℤ) × (next_boundary unit 1 i ≡ Some end) × IsFirstBoundary unit 1 i end
    by None e =
        let P : Option ℤ → Type 0 = λ o. Follows unit 1 (Some i) (option_map instant_number o) in
        let none = subst P e (next_is_first unit 1 i (omega arith) in_range) in
        let high = in_range.high in
        absurd (true≢false (sym (begins_9999 unit h) ∙ none last_boundary (omega (arith, ints, high)) (omega (arith, ints))))
    by (Some end) e =
        let P : Option ℤ → Type 0 = λ o. Follows unit 1 (Some i) (option_map instant_number o) in
        let (b, is, first) = subst P e (next_is_first unit 1 i (omega arith) in_range) in
        let same : b ≡ end = omega (arith, ints, is) in
        (end, e, subst (IsFirstBoundary unit 1 i) same first)

rule_by_test : (p : UnitRule → Bool) (rules : List UnitRule) (k : ℕ) (rule : UnitRule) → list_all p rules ≡ true → slice_get rules k ≡ Some rule → p rule ≡ true
rule_by_test p [] k rule all e = absurd cc
rule_by_test p (r ∷ rules) zero rule all e = let same : r ≡ rule = cc in ap p (sym same) ∙ (and_parts _ _ all).0
rule_by_test p (r ∷ rules) (suc k) rule all e = rule_by_test p rules k rule (and_parts _ _ all).1 e

-- no time unit keeps weeks
keeps_no_week : (code : ℕ) (rule : UnitRule) → unit_rule code ≡ Some rule → no_week rule.smallest ≡ true
unfolding no_week
keeps_no_week code rule e = rule_by_test (λ r. no_week r.smallest) (unit_rules ++ unit_rules) code rule refl e

pub time_units_are_whole : TimeUnitsAreWhole
time_units_are_whole code rule known i low high =
    let start = start_is_instant rule.kept i (record { low = low; high = high }) in
    let (end, is, first) = has_end rule.smallest (keeps_no_week code rule known) (start_of rule.kept i) start in
    record { low = start.low; high = start.high; ends = (end, ap (option_map (λ end. (start_of rule.kept i, end))) is, first) }
