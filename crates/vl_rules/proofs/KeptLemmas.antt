-- Where there is no fault.
use Rattle.std.proofs.Common.{◌≡◌, List, [], ◌∷◌, ◌++◌, flat_map, refl}
use Rattle.std.specs.Prelude.{None}
use Rattle.std.specs.List.{All}
use Rattle.std.proofs.lemmas.List.Elements.{All-nil, All-cons, All-head, All-tail}
use Rattle.json_exact.specs.declared.json.Json.{Json}
use Rattle.vl_names.specs.Names.{name_faults}
use Rattle.vl_trails.specs.declared.fault.RuleFault.{RuleFault}
use Rattle.vl_trails.proofs.OrderLemmas.{none_is_empty}
use Rattle.vl_rules.specs.Folds.{too_many_rows}
use Rattle.vl_rules.specs.Kept.{UnitIsKept, WithoutFaultsKept, KeptWithoutFaults}
use Rattle.vl_rules.specs.Marked.{MarkedAt, judged, marked}
use Rattle.vl_rules.specs.Rules.{faults_of_unit, rule_faults, unit_and_view_faults}
use Rattle.vl_rules.specs.Units.{lone_ends, one_too_many, useless_size, without_data}
use Rattle.vl_rules.specs.Views.{view_faults}

-- a list that is empty is so in both parts
first_empty : (xs ys : List RuleFault) → xs ++ ys ≡ [] → xs ≡ []
first_empty [] ys e = refl
first_empty (x ∷ xs) ys e = absurd (cc)

second_empty : (xs ys : List RuleFault) → xs ++ ys ≡ [] → ys ≡ []
second_empty [] ys e = e
second_empty (x ∷ xs) ys e = absurd (cc)

both_empty : (xs ys : List RuleFault) → xs ≡ [] → ys ≡ [] → xs ++ ys ≡ []
both_empty xs ys a b = λ i. a i ++ b i

kept_unit : (tree : Json) (u : MarkedAt) → faults_of_unit tree u ≡ [] → UnitIsKept tree u
kept_unit tree u e =
    let rest = second_empty (without_data tree u) (lone_ends tree u ++ (useless_size tree u ++ too_many_rows u)) e in
    let last = second_empty (lone_ends tree u) (useless_size tree u ++ too_many_rows u) rest in
    record {
      rows = first_empty (without_data tree u) (lone_ends tree u ++ (useless_size tree u ++ too_many_rows u)) e;
      ends = first_empty (lone_ends tree u) (useless_size tree u ++ too_many_rows u) rest;
      size = first_empty (useless_size tree u) (too_many_rows u) last;
      folds = second_empty (useless_size tree u) (too_many_rows u) last;
    }

kept_units : (tree : Json) (units : List MarkedAt) → flat_map (faults_of_unit tree) units ≡ [] → All (UnitIsKept tree) units
kept_units tree [] e = All-nil (UnitIsKept tree)
kept_units tree (u ∷ units) e =
    All-cons (UnitIsKept tree) u units (kept_unit tree u (first_empty (faults_of_unit tree u) (flat_map (faults_of_unit tree) units) e))
    (kept_units tree units (second_empty (faults_of_unit tree u) (flat_map (faults_of_unit tree) units) e))

pub without_faults_kept : WithoutFaultsKept
unfolding rule_faults
without_faults_kept tree s none =
    let all : name_faults tree s ++ unit_and_view_faults tree None s ≡ [] = none_is_empty tree (rule_faults tree None s) none in
    let each : List RuleFault = flat_map (faults_of_unit tree) (judged s) in
    let rest = second_empty (name_faults tree s) (unit_and_view_faults tree None s) all in
    let last = second_empty (one_too_many (marked s)) (each ++ view_faults tree None s) rest in
    record {
      names = first_empty (name_faults tree s) (unit_and_view_faults tree None s) all;
      few = first_empty (one_too_many (marked s)) (each ++ view_faults tree None s) rest;
      units = kept_units tree (judged s) (first_empty each (view_faults tree None s) last);
      views = second_empty each (view_faults tree None s) last;
    }

-- ---- the other way round

unit_without : (tree : Json) (u : MarkedAt) → UnitIsKept tree u → faults_of_unit tree u ≡ []
unit_without tree u k = λ i. k.rows i ++ (k.ends i ++ (k.size i ++ k.folds i))

units_without : (tree : Json) (units : List MarkedAt) → All (UnitIsKept tree) units → flat_map (faults_of_unit tree) units ≡ []
units_without tree [] all = refl
units_without tree (u ∷ units) all =
    both_empty (faults_of_unit tree u) (flat_map (faults_of_unit tree) units)
    (unit_without tree u (All-head (UnitIsKept tree) u units all)) (units_without tree units (All-tail (UnitIsKept tree) u units all))

pub kept_without_faults : KeptWithoutFaults
unfolding rule_faults
kept_without_faults tree s k =
    λ i. k.names i ++ (k.few i ++ (units_without tree (judged s) k.units i ++ k.views i))
