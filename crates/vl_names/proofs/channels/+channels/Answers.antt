use Rattle.std.proofs.Common.{◌≡◌, ◌≤◌, List, length, subst, sym, ap, ◌∙◌, arith}
use Rattle.std.specs.Prelude.{OnOk}
use Rattle.vl_spec.specs.declared.channels.Channel.{out-Channel}
use Rattle.vl_spec.specs.declared.channels.Condition.{out-Condition}
use Rattle.vl_trails.specs.declared.judging.Judging.{Judging}
use Rattle.vl_trails.specs.declared.fault.RuleFault.{RuleFault}
use Rattle.vl_trails.specs.Judging.{after}
use Rattle.vl_names.specs.Channels.{channel_faults, definition_faults, test_faults}
use Rattle.vl_names.specs.inner.Conditioned.{condition_faults, held_faults}
use Rattle.vl_names.specs.inner.Looked.{known_shown}
use Rattle.vl_names.proofs.ChannelLemmas.{channel_opens, one_condition, several_conditions}
use Rattle.vl_names.proofs.LoopLemmas.{one_item, no_item_more, two_parts}
use Rattle.vl_names.proofs.channels.+channels.Goals as goal

pub judge_channel-returns : goal.judge_channel-returns
judge_channel-returns t c =
    let known = known_shown c.args.known.now in
    let all : Judging → Type 0 = λ j. OnOk c.judge_held.result (c.judge_held.new.j ≡ j) in
    subst all (two_parts c.args.j.now _ (definition_faults known (out-Channel c.args.channel.now).definition)
    (held_faults known (out-Channel c.args.channel.now).condition) c.in_ok-judge_definition.ensures
    ∙ ap (after c.args.j.now) (sym (channel_opens known c.args.channel.now c.args.j.now.trail))) c.judge_held.ensures

pub judge_conditions-returns-in-One : goal.judge_conditions-returns-in-One
judge_conditions-returns-in-One t c =
    let all : List RuleFault → Type 0 = λ fs. OnOk c.judge_condition.result (c.judge_condition.new.j ≡ after c.args.j.now fs) in
    subst all (one_condition (known_shown c.args.known.now) c.args.conditions.now c.in-One.condition c.get.result.now c.args.j.now.trail
    c.in-One.is c.get.ensures) c.judge_condition.ensures

pub judge_conditions-returns-in-Several : goal.judge_conditions-returns-in-Several
judge_conditions-returns-in-Several t c =
    let all : List RuleFault → Type 0 = λ fs. OnOk c.judge_list.result (c.judge_list.new.j ≡ after c.args.j.now fs) in
    subst all (several_conditions (known_shown c.args.known.now) c.args.conditions.now c.in-Several.conditions c.as_slice.result.now
    c.args.j.now.trail c.in-Several.is c.as_slice.ensures) c.judge_list.ensures

pub judge_condition-returns : goal.judge_condition-returns
judge_condition-returns t c =
    let known = known_shown c.args.known.now in
    let all : Judging → Type 0 = λ j. OnOk c.judge_channel.result (c.judge_channel.new.j ≡ j) in
    subst all (two_parts c.args.j.now _ (test_faults known (out-Condition c.args.condition.now).test)
    (channel_faults known (out-Condition c.args.condition.now).shows) c.in_ok-judge_test.ensures) c.judge_channel.ensures

pub judge_list-loop-number-preserved : goal.judge_list-loop-number-preserved
judge_list-loop-number-preserved t c =
    one_item (condition_faults (known_shown c.args.known.now)) c.args.conditions.now c.loop-number.number c.index-conditions-number.result
    c.loop-number.j _ _ c.loop-number-test.true c.index-conditions-number.is c.in_ok-judge_item.ensures c.loop-number.invariant

pub judge_list-returns : goal.judge_list-returns
judge_list-returns t c =
    let past = c.loop-number-test.false in
    let over : length c.args.conditions.now ≤ c.loop-number.number = omega arith in
    no_item_more (condition_faults (known_shown c.args.known.now)) c.args.conditions.now c.loop-number.number c.loop-number.j _ over
    c.loop-number.invariant
