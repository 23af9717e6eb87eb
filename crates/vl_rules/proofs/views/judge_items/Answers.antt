use Rattle.std.proofs.Common.{◌≤◌, length, map, arith}
use Rattle.vl_rules.specs.Views.{param_fault}
use Rattle.vl_rules.proofs.LoopLemmas.{one_at, no_item_more}
use Rattle.vl_rules.proofs.views.judge_items.Goals as goal

pub loop-place-preserved : goal.loop-place-preserved
loop-place-preserved c =
    one_at (λ tree. param_fault tree c.args.first.now c.args.params.now c.args.offers.now (map (λ o. o.now) c.args.inside.now))
    c.args.numbers.now c.loop-place.place _
    c.loop-place.judging _ _ c.loop-place-test.true c.in_ok-judge_item.ensures c.loop-place.invariant

pub returns : goal.returns
returns c =
    let past = c.loop-place-test.false in
    let over : length c.args.numbers.now ≤ c.loop-place.place = omega arith in
    no_item_more (λ tree. param_fault tree c.args.first.now c.args.params.now c.args.offers.now (map (λ o. o.now) c.args.inside.now))
    c.args.numbers.now c.loop-place.place
    c.loop-place.judging _ over c.loop-place.invariant
