-- Unknown names in conditions.
use Rattle.std.specs.Prelude.{Option, [], ◌++◌, codes}
use Rattle.std.specs.Option.{option_map_or}
use Rattle.vl_spec.specs.declared.channels.Condition.{Condition, out-Condition}
use Rattle.vl_spec.specs.declared.channels.Conditions.{Conditions, fold-Conditions}
use Rattle.vl_trails.specs.Trails.{to_member}
use Rattle.vl_names.specs.Channels.{channel_here, conditions_here, condition_here, channel_faults, test_faults}
use Rattle.vl_names.specs.Filters.{Judged}
use Rattle.vl_names.specs.Known.{Known}

-- those of a condition
abbrev pub condition_faults : Known → Condition → Judged
condition_faults known c trail = test_faults known (out-Condition c).test trail ++ channel_faults known (out-Condition c).shows trail

-- those of conditions
abbrev pub conditions_faults : Known → Conditions → Judged
conditions_faults known = fold-Conditions Judged Judged Judged conditions_here (channel_here known) (condition_here known)

-- those of the conditions of a channel, which may be absent
abbrev pub held_faults : Known → Option Conditions → Judged
held_faults known held trail = option_map_or (λ (c : Conditions). conditions_faults known c (to_member trail (codes "condition"))) held []
