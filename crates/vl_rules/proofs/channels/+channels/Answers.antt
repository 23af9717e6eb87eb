use Rattle.std.proofs.Common.{◌≡◌, List, ◌≤◌, length, subst, sym, ap, ◌∙◌, arith}
use Rattle.std.specs.Prelude.{OnOk}
use Rattle.vl_spec.specs.declared.channels.Channel.{out-Channel}
use Rattle.vl_trails.specs.declared.fault.RuleFault.{RuleFault}
use Rattle.vl_trails.specs.declared.judging.Judging.{Judging}
use Rattle.vl_trails.specs.Judging.{after}
use Rattle.vl_rules.specs.Scales.{definition_faults}
use Rattle.vl_rules.specs.inner.Held.{condition_faults, held_faults}
use Rattle.vl_rules.proofs.HeldLemmas.{channel_opens, one_condition, several_conditions}
use Rattle.vl_rules.proofs.LoopLemmas.{one_item, no_item_more, two_parts}
use Rattle.vl_rules.proofs.channels.+channels.Goals as goal

pub judge_channel-returns : goal.judge_channel-returns
judge_channel-returns t c =
    let all : Judging → Type 0 = λ j. OnOk c.judge_held.result (c.judge_held.new.judging ≡ j) in
    subst all (two_parts c.args.judging.now _ (λ tree. definition_faults tree c.args.code (out-Channel c.args.channel.now).definition)
    (λ tree. held_faults tree c.args.code (out-Channel c.args.channel.now).condition) c.in_ok-judge_definition.ensures
    ∙ ap (after c.args.judging.now) (sym (channel_opens c.args.judging.now.tree.now c.args.code c.args.channel.now c.args.judging.now.trail)))
    c.judge_held.ensures

pub judge_conditions-returns-in-One : goal.judge_conditions-returns-in-One
judge_conditions-returns-in-One t c =
    let all : List RuleFault → Type 0 = λ fs. OnOk c.judge_channel.result (c.judge_channel.new.judging ≡ after c.args.judging.now fs) in
    subst all (one_condition c.args.judging.now.tree.now c.args.code c.args.conditions.now c.in-One.condition c.get.result.now c.args.judging.now.trail
    c.in-One.is c.get.ensures) c.judge_channel.ensures

pub judge_conditions-returns-in-Several : goal.judge_conditions-returns-in-Several
judge_conditions-returns-in-Several t c =
    let all : List RuleFault → Type 0 = λ fs. OnOk c.judge_list.result (c.judge_list.new.judging ≡ after c.args.judging.now fs) in
    subst all (several_conditions c.args.judging.now.tree.now c.args.code c.args.conditions.now c.in-Several.conditions c.as_slice.result.now
    c.args.judging.now.trail c.in-Several.is c.as_slice.ensures) c.judge_list.ensures

pub judge_list-loop-number-preserved : goal.judge_list-loop-number-preserved
judge_list-loop-number-preserved t c =
    one_item (λ tree. condition_faults tree c.args.code) c.args.conditions.now c.loop-number.number c.index-conditions-number.result
    c.loop-number.judging _ _ c.loop-number-test.true c.index-conditions-number.is c.in_ok-judge_item.ensures c.loop-number.invariant

pub judge_list-returns : goal.judge_list-returns
judge_list-returns t c =
    let past = c.loop-number-test.false in
    let over : length c.args.conditions.now ≤ c.loop-number.number = omega arith in
    no_item_more (λ tree. condition_faults tree c.args.code) c.args.conditions.now c.loop-number.number c.loop-number.judging _ over
    c.loop-number.invariant
