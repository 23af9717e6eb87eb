-- Channels and conditions by what they are.
use Rattle.std.proofs.Common.{◌≡◌, ℕ, Option, Some, None, List, [], ◌∷◌, ◌++◌, map, flat_map, refl, sym, ap, ◌∙◌}
use Rattle.json_exact.specs.declared.json.Json.{Json}
use Rattle.vl_spec.specs.declared.channels.Channel.{Channel, Channel-F, out-Channel, map-Channel, fold_out-Channel}
use Rattle.vl_spec.specs.declared.channels.Condition.{Condition, fold-Condition, fold_out-Condition}
use Rattle.vl_spec.specs.declared.channels.Conditions.{Conditions, Conditions-F, out-Conditions, out-roll-Conditions, map-Conditions, fold_out-Conditions}
use Rattle.vl_spec.specs.declared.channels.Conditions.TheVariants as conditions
use Rattle.vl_spec.specs.declared.channels.Conditions.TheVariants.{rolls-One, rolls-Several}
use Rattle.vl_spec.specs.declared.channels.Conditions.TheOpen as level
use Rattle.vl_spec.specs.declared.definitions.Definition.{Definition}
use Rattle.vl_trails.specs.declared.fault.RuleFault.{RuleFault}
use Rattle.vl_trails.specs.Trails.{Trail}
use Rattle.vl_rules.specs.Parts as part
use Rattle.vl_rules.specs.Scales.{definition_faults}
use Rattle.vl_rules.specs.Views as view
use Rattle.vl_rules.specs.inner.Held.{all_of_condition, all_of_conditions, condition_faults, conditions_faults, held_faults}

-- ---- faults of scales

folded_condition : Json → ℕ → Condition → view.Faulty
folded_condition tree code = fold-Condition view.Faulty view.Faulty view.Faulty view.conditions_here (view.channel_here tree code) view.condition_here

condition_opens : (tree : Json) (code : ℕ) (c : Condition) → folded_condition tree code c ≡ condition_faults tree code c
unfolding folded_condition
condition_opens tree code c = fold_out-Condition view.Faulty view.Faulty view.Faulty view.conditions_here (view.channel_here tree code) view.condition_here c

each_opens : (tree : Json) (code : ℕ) (cs : List Condition) → map (folded_condition tree code) cs ≡ map (condition_faults tree code) cs
each_opens tree code [] = refl
each_opens tree code (c ∷ cs) = λ i. condition_opens tree code c i ∷ each_opens tree code cs i

-- conditions by what they are
abbrev conditions_at : Json → ℕ → Conditions-F Conditions Channel Condition → view.Faulty
conditions_at tree code (level.One c) = condition_faults tree code c
conditions_at tree code (level.Several cs) = view.item_faults (map (condition_faults tree code) cs)

conditions_open : (tree : Json) (code : ℕ) (k : Conditions) → conditions_faults tree code k ≡ conditions_at tree code (out-Conditions k)
unfolding folded_condition
conditions_open tree code k =
    fold_out-Conditions view.Faulty view.Faulty view.Faulty view.conditions_here (view.channel_here tree code) view.condition_here k ∙ by (out-Conditions k)
  where
    by : (o : Conditions-F Conditions Channel Condition) →
        view.conditions_here
        (map-Conditions Conditions Channel Condition view.Faulty view.Faulty view.Faulty (conditions_faults tree code) (view.channel_faults tree code)
        (folded_condition tree code) o) ≡ conditions_at tree code o
    by (level.One c) = condition_opens tree code c
    by (level.Several cs) = ap view.item_faults (each_opens tree code cs)

pub one_condition : (tree : Json) (code : ℕ) (k : Conditions) (c inner : Condition) (trail : Trail) → k ≡ conditions.One c → inner ≡ c →
    condition_faults tree code inner trail ≡ conditions_faults tree code k trail
one_condition tree code k c inner trail is same =
    ap (λ x. condition_faults tree code x trail) same
    ∙ sym (ap (λ (j : view.Faulty). j trail) (conditions_open tree code k
    ∙ ap (conditions_at tree code) (ap out-Conditions (is ∙ sym (rolls-One c)) ∙ out-roll-Conditions (level.One c))))

pub several_conditions : (tree : Json) (code : ℕ) (k : Conditions) (cs items : List Condition) (trail : Trail) → k ≡ conditions.Several cs → items ≡ cs →
    view.item_faults (map (condition_faults tree code) items) trail ≡ conditions_faults tree code k trail
several_conditions tree code k cs items trail is same =
    ap (λ xs. view.item_faults (map (condition_faults tree code) xs) trail) same
    ∙ sym (ap (λ (j : view.Faulty). j trail) (conditions_open tree code k
    ∙ ap (conditions_at tree code) (ap out-Conditions (is ∙ sym (rolls-Several cs)) ∙ out-roll-Conditions (level.Several cs))))

-- a channel: its definition, and its conditions, which may be absent
channel_by : (tree : Json) (code : ℕ) (c : Channel) (trail : Trail) (held : Option Conditions) → (out-Channel c).condition ≡ held →
    view.channel_faults tree code c trail ≡ definition_faults tree code (out-Channel c).definition trail ++ held_faults tree code held trail
unfolding folded_condition
channel_by tree code c trail None is =
    let at : Channel-F Conditions Channel Condition → List RuleFault = λ o. view.channel_here tree code (map-Channel Conditions Channel Condition
    view.Faulty view.Faulty view.Faulty (conditions_faults tree code) (view.channel_faults tree code) (folded_condition tree code) o) trail in
    ap (λ (j : view.Faulty). j trail)
    (fold_out-Channel view.Faulty view.Faulty view.Faulty view.conditions_here (view.channel_here tree code) view.condition_here c)
    ∙ ap at (λ i. record { definition = (out-Channel c).definition; condition = is i })
channel_by tree code c trail (Some k) is =
    let at : Channel-F Conditions Channel Condition → List RuleFault = λ o. view.channel_here tree code (map-Channel Conditions Channel Condition
    view.Faulty view.Faulty view.Faulty (conditions_faults tree code) (view.channel_faults tree code) (folded_condition tree code) o) trail in
    ap (λ (j : view.Faulty). j trail)
    (fold_out-Channel view.Faulty view.Faulty view.Faulty view.conditions_here (view.channel_here tree code) view.condition_here c)
    ∙ ap at (λ i. record { definition = (out-Channel c).definition; condition = is i })

pub channel_opens : (tree : Json) (code : ℕ) (c : Channel) (trail : Trail) →
    view.channel_faults tree code c trail
    ≡ definition_faults tree code (out-Channel c).definition trail ++ held_faults tree code (out-Channel c).condition trail
channel_opens tree code c trail = channel_by tree code c trail (out-Channel c).condition refl

-- ---- definitions

defined_condition : Condition → List Definition
defined_condition = fold-Condition (List Definition) (List Definition) (List Definition) part.conditions_here part.channel_here part.condition_here

condition_defines : (c : Condition) → defined_condition c ≡ all_of_condition c
unfolding defined_condition
condition_defines c = fold_out-Condition (List Definition) (List Definition) (List Definition) part.conditions_here part.channel_here part.condition_here c

each_defines : (cs : List Condition) → flat_map (λ ds. ds) (map defined_condition cs) ≡ flat_map all_of_condition cs
each_defines [] = refl
each_defines (c ∷ cs) = λ i. condition_defines c i ++ each_defines cs i

abbrev defined_at : Conditions-F Conditions Channel Condition → List Definition
defined_at (level.One c) = all_of_condition c
defined_at (level.Several cs) = flat_map all_of_condition cs

conditions_define : (k : Conditions) → all_of_conditions k ≡ defined_at (out-Conditions k)
unfolding defined_condition
conditions_define k =
    fold_out-Conditions (List Definition) (List Definition) (List Definition)
    part.conditions_here part.channel_here part.condition_here k ∙ by (out-Conditions k)
  where
    by : (o : Conditions-F Conditions Channel Condition) →
        part.conditions_here (map-Conditions Conditions Channel Condition (List Definition) (List Definition) (List Definition) all_of_conditions part.all_of
        defined_condition o) ≡ defined_at o
    by (level.One c) = condition_defines c
    by (level.Several cs) = each_defines cs

pub one_defined : (k : Conditions) (c : Condition) → k ≡ conditions.One c → all_of_conditions k ≡ all_of_condition c
one_defined k c is = conditions_define k ∙ ap defined_at (ap out-Conditions (is ∙ sym (rolls-One c)) ∙ out-roll-Conditions (level.One c))

pub several_defined : (k : Conditions) (cs : List Condition) → k ≡ conditions.Several cs → all_of_conditions k ≡ flat_map all_of_condition cs
several_defined k cs is = conditions_define k ∙ ap defined_at (ap out-Conditions (is ∙ sym (rolls-Several cs)) ∙ out-roll-Conditions (level.Several cs))
