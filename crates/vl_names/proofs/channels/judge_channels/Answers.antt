use Rattle.std.proofs.Common.{arith}
use Rattle.vl_names.specs.Channels.{channel_of_faults}
use Rattle.vl_names.specs.inner.Looked.{known_shown}
use Rattle.vl_names.proofs.LoopLemmas.{one_part, no_part_more}
use Rattle.vl_names.proofs.channels.judge_channels.Goals as goal

pub loop-channel-preserved : goal.loop-channel-preserved
loop-channel-preserved c =
    one_part (channel_of_faults (known_shown c.args.known.now)) c.args.channels.now c.loop-channel.channel-index c.channel-item.result
    c.loop-channel.j _ _ (omega arith) c.channel-item.is c.in_ok-judge_channel_of.ensures c.loop-channel.invariant

pub returns : goal.returns
returns c =
    no_part_more (channel_of_faults (known_shown c.args.known.now)) c.args.channels.now c.loop-channel.channel-index c.loop-channel.j _
    (omega arith) c.loop-channel.invariant
