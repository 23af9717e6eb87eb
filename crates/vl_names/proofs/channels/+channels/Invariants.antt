use Rattle.std.proofs.Common.{◌≡◌, ◌+◌, ◌*◌, drop, map}
use Rattle.vl_spec.specs.declared.channels.Channel.{size-Channel}
use Rattle.vl_spec.specs.declared.channels.Condition.{size-Condition}
use Rattle.vl_spec.specs.declared.channels.Conditions.{size-Conditions}
use Rattle.vl_trails.specs.Judging.{after}
use Rattle.vl_names.specs.Filters.{each_item, items_from}
use Rattle.vl_names.specs.inner.Conditioned.{condition_faults}
use Rattle.vl_names.specs.inner.Looked.{known_shown}
use Rattle.vl_names.proofs.channels.+channels.Given as goal

abbrev pub invariant-judge_list-loop-number : goal.invariant-judge_list-loop-number
invariant-judge_list-loop-number l =
    after l.j (items_from l.number (map (condition_faults (known_shown l.known)) (drop l.number l.conditions)) l.j.trail)
    ≡ after l.fn.j (each_item (map (condition_faults (known_shown l.known)) l.conditions) l.fn.j.trail)

abbrev pub decreases-judge_channel : goal.decreases-judge_channel
decreases-judge_channel l = 8 * size-Channel l.channel.now

abbrev pub decreases-judge_held : goal.decreases-judge_held
decreases-judge_held l = 8 * goal.size-judge_held l + 4

abbrev pub decreases-judge_under : goal.decreases-judge_under
decreases-judge_under l = 8 * size-Conditions l.conditions.now + 3

abbrev pub decreases-judge_conditions : goal.decreases-judge_conditions
decreases-judge_conditions l = 8 * size-Conditions l.conditions.now + 2

abbrev pub decreases-judge_list : goal.decreases-judge_list
decreases-judge_list l = 8 * goal.size-judge_list l + 3

abbrev pub decreases-judge_item : goal.decreases-judge_item
decreases-judge_item l = 8 * size-Condition l.condition.now + 2

abbrev pub decreases-judge_condition : goal.decreases-judge_condition
decreases-judge_condition l = 8 * size-Condition l.condition.now + 1
