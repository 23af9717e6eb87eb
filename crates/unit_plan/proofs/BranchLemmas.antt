-- The branches of channels with conditions.
use Rattle.std.proofs.Common.{◌≡◌, List, [], ◌∷◌, ◌++◌, map, refl, sym, ap, ◌∙◌}
use Rattle.std.specs.Prelude.{flat_map}
use Rattle.vl_spec.specs.declared.channels.Channel.{Channel}
use Rattle.vl_spec.specs.declared.channels.Condition.{Condition, fold-Condition, fold_out-Condition}
use Rattle.vl_spec.specs.declared.channels.Conditions.{Conditions, Conditions-F, out-Conditions, out-roll-Conditions, map-Conditions, fold_out-Conditions}
use Rattle.vl_spec.specs.declared.channels.Conditions.TheVariants as conditions
use Rattle.vl_spec.specs.declared.channels.Conditions.TheVariants.{rolls-One, rolls-Several}
use Rattle.vl_spec.specs.declared.channels.Conditions.TheOpen as level
use Rattle.vl_spec.specs.declared.channels.Test.{Test}
use Rattle.unit_plan.specs.Branches.{Under, channel_here, conditions_here, condition_here, branches_under}
use Rattle.unit_plan.specs.inner.Lent.{under_condition, under_conditions}

condition_opens : (c : Condition) → fold-Condition Under Under Under conditions_here channel_here condition_here c ≡ under_condition c
condition_opens c = fold_out-Condition Under Under Under conditions_here channel_here condition_here c

each_opens : (tests : List Test) (cs : List Condition) →
    flat_map (λ (condition : Under). condition tests) (map (fold-Condition Under Under Under conditions_here channel_here condition_here) cs)
    ≡ flat_map (λ c. under_condition c tests) cs
each_opens tests [] = refl
each_opens tests (c ∷ cs) = λ i. condition_opens c i tests ++ each_opens tests cs i

-- conditions by what they are
abbrev pub conditions_at : Conditions-F Conditions Channel Condition → Under
conditions_at (level.One c) tests = under_condition c tests
conditions_at (level.Several cs) tests = flat_map (λ c. under_condition c tests) cs

conditions_open : (k : Conditions) (tests : List Test) → under_conditions k tests ≡ conditions_at (out-Conditions k) tests
conditions_open k tests =
    ap (λ (u : Under). u tests) (fold_out-Conditions Under Under Under conditions_here channel_here condition_here k) ∙ by (out-Conditions k)
  where
    by : (o : Conditions-F Conditions Channel Condition) →
        conditions_here (map-Conditions Conditions Channel Condition Under Under Under under_conditions branches_under
        (fold-Condition Under Under Under conditions_here channel_here condition_here) o) tests ≡ conditions_at o tests
    by (level.One c) = ap (λ (u : Under). u tests) (condition_opens c)
    by (level.Several cs) = each_opens tests cs

pub one_condition : (k : Conditions) (c : Condition) (tests : List Test) → k ≡ conditions.One c → under_conditions k tests ≡ under_condition c tests
one_condition k c tests is =
    conditions_open k tests ∙ ap (λ o. conditions_at o tests) (ap out-Conditions (is ∙ sym (rolls-One c)) ∙ out-roll-Conditions (level.One c))

pub several_conditions : (k : Conditions) (cs : List Condition) (tests : List Test) → k ≡ conditions.Several cs
    → under_conditions k tests ≡ flat_map (λ c. under_condition c tests) cs
several_conditions k cs tests is =
    conditions_open k tests ∙ ap (λ o. conditions_at o tests) (ap out-Conditions (is ∙ sym (rolls-Several cs)) ∙ out-roll-Conditions (level.Several cs))
