use Rattle.std.proofs.Common.{◌≡◌, drop}
use Rattle.vl_trails.specs.Judging.{after}
use Rattle.vl_rules.specs.Views.{channels_faults}
use Rattle.vl_rules.proofs.channels.judge_channels.Given as goal

abbrev pub invariant-loop-channel : goal.invariant-loop-channel
invariant-loop-channel l =
    after l.judging (channels_faults l.judging.tree.now (drop l.channel-index l.channels) l.judging.trail)
    ≡ after l.fn.judging (channels_faults l.fn.judging.tree.now l.channels l.fn.judging.trail)
