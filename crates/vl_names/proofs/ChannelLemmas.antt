-- Channels and conditions by what they are.
use Rattle.std.proofs.Common.{◌≡◌, Option, Some, None, List, [], ◌∷◌, ◌++◌, map, refl, sym, ap, ◌∙◌}
use Rattle.vl_spec.specs.declared.channels.Channel.{Channel, Channel-F, out-Channel, map-Channel, fold_out-Channel}
use Rattle.vl_spec.specs.declared.channels.Condition.{Condition, fold-Condition, fold_out-Condition}
use Rattle.vl_spec.specs.declared.channels.Conditions.{Conditions, Conditions-F, out-Conditions, out-roll-Conditions, map-Conditions, fold_out-Conditions}
use Rattle.vl_spec.specs.declared.channels.Conditions.TheVariants as conditions
use Rattle.vl_spec.specs.declared.channels.Conditions.TheVariants.{rolls-One, rolls-Several}
use Rattle.vl_spec.specs.declared.channels.Conditions.TheOpen as level
use Rattle.vl_trails.specs.declared.fault.RuleFault.{RuleFault}
use Rattle.vl_trails.specs.Trails.{Trail}
use Rattle.vl_names.specs.Channels.{channel_here, conditions_here, condition_here, channel_faults, definition_faults}
use Rattle.vl_names.specs.Filters.{Judged, each_item}
use Rattle.vl_names.specs.Known.{Known}
use Rattle.vl_names.specs.inner.Conditioned.{condition_faults, conditions_faults, held_faults}

folded_condition : Known → Condition → Judged
folded_condition known = fold-Condition Judged Judged Judged conditions_here (channel_here known) (condition_here known)

condition_opens : (known : Known) (c : Condition) → folded_condition known c ≡ condition_faults known c
unfolding folded_condition
condition_opens known c = fold_out-Condition Judged Judged Judged conditions_here (channel_here known) (condition_here known) c

each_opens : (known : Known) (cs : List Condition) → map (folded_condition known) cs ≡ map (condition_faults known) cs
each_opens known [] = refl
each_opens known (c ∷ cs) = λ i. condition_opens known c i ∷ each_opens known cs i

-- conditions by what they are
abbrev conditions_at : Known → Conditions-F Conditions Channel Condition → Judged
conditions_at known (level.One c) = condition_faults known c
conditions_at known (level.Several cs) = each_item (map (condition_faults known) cs)

conditions_open : (known : Known) (k : Conditions) → conditions_faults known k ≡ conditions_at known (out-Conditions k)
unfolding folded_condition
conditions_open known k =
    fold_out-Conditions Judged Judged Judged conditions_here (channel_here known) (condition_here known) k ∙ by (out-Conditions k)
  where
    by : (o : Conditions-F Conditions Channel Condition) →
        conditions_here (map-Conditions Conditions Channel Condition Judged Judged Judged (conditions_faults known) (channel_faults known)
        (folded_condition known) o) ≡ conditions_at known o
    by (level.One c) = condition_opens known c
    by (level.Several cs) = ap each_item (each_opens known cs)

pub one_condition : (known : Known) (k : Conditions) (c inner : Condition) (trail : Trail) → k ≡ conditions.One c → inner ≡ c →
    condition_faults known inner trail ≡ conditions_faults known k trail
one_condition known k c inner trail is same =
    ap (λ x. condition_faults known x trail) same
    ∙ sym (ap (λ (j : Judged). j trail) (conditions_open known k
    ∙ ap (conditions_at known) (ap out-Conditions (is ∙ sym (rolls-One c)) ∙ out-roll-Conditions (level.One c))))

pub several_conditions : (known : Known) (k : Conditions) (cs items : List Condition) (trail : Trail) → k ≡ conditions.Several cs → items ≡ cs →
    each_item (map (condition_faults known) items) trail ≡ conditions_faults known k trail
several_conditions known k cs items trail is same =
    ap (λ xs. each_item (map (condition_faults known) xs) trail) same
    ∙ sym (ap (λ (j : Judged). j trail) (conditions_open known k
    ∙ ap (conditions_at known) (ap out-Conditions (is ∙ sym (rolls-Several cs)) ∙ out-roll-Conditions (level.Several cs))))

-- a channel: its definition, and its conditions, which may be absent
channel_by : (known : Known) (c : Channel) (trail : Trail) (held : Option Conditions) → (out-Channel c).condition ≡ held →
    channel_faults known c trail ≡ definition_faults known (out-Channel c).definition trail ++ held_faults known held trail
unfolding folded_condition
channel_by known c trail None is =
    let at : Channel-F Conditions Channel Condition → List RuleFault = λ o. channel_here known (map-Channel Conditions Channel Condition
    Judged Judged Judged (conditions_faults known) (channel_faults known) (folded_condition known) o) trail in
    ap (λ (j : Judged). j trail) (fold_out-Channel Judged Judged Judged conditions_here (channel_here known) (condition_here known) c)
    ∙ ap at (λ i. record { definition = (out-Channel c).definition; condition = is i })
channel_by known c trail (Some k) is =
    let at : Channel-F Conditions Channel Condition → List RuleFault = λ o. channel_here known (map-Channel Conditions Channel Condition
    Judged Judged Judged (conditions_faults known) (channel_faults known) (folded_condition known) o) trail in
    ap (λ (j : Judged). j trail) (fold_out-Channel Judged Judged Judged conditions_here (channel_here known) (condition_here known) c)
    ∙ ap at (λ i. record { definition = (out-Channel c).definition; condition = is i })

pub channel_opens : (known : Known) (c : Channel) (trail : Trail) →
    channel_faults known c trail ≡ definition_faults known (out-Channel c).definition trail ++ held_faults known (out-Channel c).condition trail
channel_opens known c trail = channel_by known c trail (out-Channel c).condition refl
