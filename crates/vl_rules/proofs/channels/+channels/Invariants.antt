use Rattle.std.proofs.Common.{◌≡◌, ◌+◌, ◌*◌, drop, map}
use Rattle.vl_spec.specs.declared.channels.Channel.{size-Channel}
use Rattle.vl_spec.specs.declared.channels.Condition.{size-Condition}
use Rattle.vl_spec.specs.declared.channels.Conditions.{size-Conditions}
use Rattle.vl_trails.specs.Judging.{after}
use Rattle.vl_rules.specs.Views.{item_faults, items_from}
use Rattle.vl_rules.specs.inner.Held.{condition_faults}
use Rattle.vl_rules.proofs.channels.+channels.Given as goal

abbrev pub invariant-judge_list-loop-number : goal.invariant-judge_list-loop-number
invariant-judge_list-loop-number l =
    after l.judging (items_from l.number (map (condition_faults l.judging.tree.now l.code) (drop l.number l.conditions)) l.judging.trail)
    ≡ after l.fn.judging (item_faults (map (condition_faults l.fn.judging.tree.now l.code) l.conditions) l.fn.judging.trail)

abbrev pub decreases-judge_channel : goal.decreases-judge_channel
decreases-judge_channel l = 8 * size-Channel l.channel.now

abbrev pub decreases-judge_held : goal.decreases-judge_held
decreases-judge_held l = 8 * goal.size-judge_held l + 4

abbrev pub decreases-judge_inside : goal.decreases-judge_inside
decreases-judge_inside l = 8 * size-Conditions l.conditions.now + 3

abbrev pub decreases-judge_conditions : goal.decreases-judge_conditions
decreases-judge_conditions l = 8 * size-Conditions l.conditions.now + 2

abbrev pub decreases-judge_list : goal.decreases-judge_list
decreases-judge_list l = 8 * goal.size-judge_list l + 3

abbrev pub decreases-judge_item : goal.decreases-judge_item
decreases-judge_item l = 8 * size-Condition l.condition.now + 2
