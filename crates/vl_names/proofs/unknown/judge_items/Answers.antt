use Rattle.std.proofs.Common.{◌≤◌, length, arith}
use Rattle.vl_names.specs.Unknown.{transform_faults}
use Rattle.vl_names.specs.inner.Looked.{known_shown}
use Rattle.vl_names.proofs.LoopLemmas.{one_item, no_item_more}
use Rattle.vl_names.proofs.unknown.judge_items.Goals as goal

pub loop-number-preserved : goal.loop-number-preserved
loop-number-preserved c =
    one_item (transform_faults (known_shown c.args.known.now)) c.args.transforms.now c.loop-number.number c.index-transforms-number.result
    c.loop-number.j _ _ c.loop-number-test.true c.index-transforms-number.is c.in_ok-judge_item.ensures c.loop-number.invariant

pub returns : goal.returns
returns c =
    let past = c.loop-number-test.false in
    let over : length c.args.transforms.now ≤ c.loop-number.number = omega arith in
    no_item_more (transform_faults (known_shown c.args.known.now)) c.args.transforms.now c.loop-number.number c.loop-number.j _ over c.loop-number.invariant
