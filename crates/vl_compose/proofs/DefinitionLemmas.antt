-- The definitions of channels with conditions.
use Rattle.std.proofs.Common.{◌≡◌, List, [], ◌∷◌, ◌++◌, map, refl, sym, ap, ◌∙◌}
use Rattle.std.specs.Prelude.{flat_map}
use Rattle.vl_spec.specs.declared.channels.Channel.{Channel}
use Rattle.vl_spec.specs.declared.channels.Condition.{Condition, fold-Condition, fold_out-Condition}
use Rattle.vl_spec.specs.declared.channels.Conditions.{Conditions, Conditions-F, out-Conditions, out-roll-Conditions, map-Conditions, fold_out-Conditions}
use Rattle.vl_spec.specs.declared.channels.Conditions.TheVariants as conditions
use Rattle.vl_spec.specs.declared.channels.Conditions.TheVariants.{rolls-One, rolls-Several}
use Rattle.vl_spec.specs.declared.channels.Conditions.TheOpen as level
use Rattle.vl_spec.specs.declared.definitions.Definition.{Definition}
use Rattle.vl_compose.specs.Definitions.{channel_here, conditions_here, condition_here, definitions_of}
use Rattle.vl_compose.specs.inner.Conditioned.{of_condition, of_conditions}

pub condition_opens : (c : Condition) →
    fold-Condition (List Definition) (List Definition) (List Definition) conditions_here channel_here condition_here c ≡ of_condition c
condition_opens c = fold_out-Condition (List Definition) (List Definition) (List Definition) conditions_here channel_here condition_here c

each_opens : (cs : List Condition) →
    flat_map (λ ds. ds) (map (fold-Condition (List Definition) (List Definition) (List Definition) conditions_here channel_here condition_here) cs)
    ≡ flat_map of_condition cs
each_opens [] = refl
each_opens (c ∷ cs) = λ i. condition_opens c i ++ each_opens cs i

-- conditions by what they are
abbrev pub conditions_at : Conditions-F Conditions Channel Condition → List Definition
conditions_at (level.One c) = of_condition c
conditions_at (level.Several cs) = flat_map of_condition cs

conditions_open : (k : Conditions) → of_conditions k ≡ conditions_at (out-Conditions k)
conditions_open k =
    fold_out-Conditions (List Definition) (List Definition) (List Definition) conditions_here channel_here condition_here k ∙ by (out-Conditions k)
  where
    by : (o : Conditions-F Conditions Channel Condition) →
        conditions_here (map-Conditions Conditions Channel Condition (List Definition) (List Definition) (List Definition) of_conditions definitions_of
        (fold-Condition (List Definition) (List Definition) (List Definition) conditions_here channel_here condition_here) o) ≡ conditions_at o
    by (level.One c) = condition_opens c
    by (level.Several cs) = each_opens cs

pub one_condition : (k : Conditions) (c : Condition) → k ≡ conditions.One c → of_conditions k ≡ of_condition c
one_condition k c is = conditions_open k ∙ ap conditions_at (ap out-Conditions (is ∙ sym (rolls-One c)) ∙ out-roll-Conditions (level.One c))

pub several_conditions : (k : Conditions) (cs : List Condition) → k ≡ conditions.Several cs → of_conditions k ≡ flat_map of_condition cs
several_conditions k cs is = conditions_open k ∙ ap conditions_at (ap out-Conditions (is ∙ sym (rolls-Several cs)) ∙ out-roll-Conditions (level.Several cs))
