-- What conditions hold.
use Rattle.std.specs.Prelude.{ℕ, Option, List, [], codes}
use Rattle.std.specs.Option.{option_map_or}
use Rattle.json_exact.specs.declared.json.Json.{Json}
use Rattle.vl_spec.specs.declared.channels.Condition.{Condition, out-Condition}
use Rattle.vl_spec.specs.declared.channels.Conditions.{Conditions, fold-Conditions}
use Rattle.vl_spec.specs.declared.definitions.Definition.{Definition}
use Rattle.vl_trails.specs.Trails.{to_member}
use Rattle.vl_rules.specs.Parts as part
use Rattle.vl_rules.specs.Views as view

-- all definitions of conditions
abbrev pub all_of_conditions : Conditions → List Definition
all_of_conditions = fold-Conditions (List Definition) (List Definition) (List Definition) part.conditions_here part.channel_here part.condition_here

abbrev pub all_of_condition : Condition → List Definition
all_of_condition c = part.all_of (out-Condition c).shows

-- the faults of the scales of conditions
abbrev pub conditions_faults : Json → ℕ → Conditions → view.Faulty
conditions_faults tree code = fold-Conditions view.Faulty view.Faulty view.Faulty view.conditions_here (view.channel_here tree code) view.condition_here

abbrev pub condition_faults : Json → ℕ → Condition → view.Faulty
condition_faults tree code c = view.channel_faults tree code (out-Condition c).shows

-- those of the conditions of a channel, which may be absent
abbrev pub held_faults : Json → ℕ → Option Conditions → view.Faulty
held_faults tree code held trail = option_map_or (λ (c : Conditions). conditions_faults tree code c (to_member trail (codes "condition"))) held []
