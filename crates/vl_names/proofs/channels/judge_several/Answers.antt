use Rattle.std.proofs.Common.{◌≤◌, length, arith}
use Rattle.vl_names.specs.Channels.{channel_faults}
use Rattle.vl_names.specs.inner.Looked.{known_shown}
use Rattle.vl_names.proofs.LoopLemmas.{one_item, no_item_more}
use Rattle.vl_names.proofs.channels.judge_several.Goals as goal

pub loop-number-preserved : goal.loop-number-preserved
loop-number-preserved c =
    one_item (channel_faults (known_shown c.args.known.now)) c.args.channels.now c.loop-number.number c.index-channels-number.result
    c.loop-number.j _ _ c.loop-number-test.true c.index-channels-number.is c.in_ok-judge_one.ensures c.loop-number.invariant

pub returns : goal.returns
returns c =
    let past = c.loop-number-test.false in
    let over : length c.args.channels.now ≤ c.loop-number.number = omega arith in
    no_item_more (channel_faults (known_shown c.args.known.now)) c.args.channels.now c.loop-number.number c.loop-number.j _ over c.loop-number.invariant
