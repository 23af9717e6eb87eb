use Rattle.std.proofs.Common.{arith}
use Rattle.vl_rules.specs.Views.{scale_faults_of}
use Rattle.vl_rules.proofs.LoopLemmas.{one_part, no_part_more}
use Rattle.vl_rules.proofs.channels.judge_channels.Goals as goal

pub loop-channel-preserved : goal.loop-channel-preserved
loop-channel-preserved c =
    one_part scale_faults_of c.args.channels.now c.loop-channel.channel-index c.channel-item.result
    c.loop-channel.judging _ _ (omega arith) c.channel-item.is c.in_ok-judge_scales_of.ensures c.loop-channel.invariant

pub returns : goal.returns
returns c =
    no_part_more scale_faults_of c.args.channels.now c.loop-channel.channel-index c.loop-channel.judging _
    (omega arith) c.loop-channel.invariant
