use Rattle.std.proofs.Common.{◌≡◌, drop}
use Rattle.vl_normalize.specs.Channels.{has_channel}
use Rattle.vl_rules.proofs.leads.has_own_channel.Given as goal

abbrev pub invariant-loop-channel : goal.invariant-loop-channel
invariant-loop-channel l =
    has_channel (drop l.channel-index l.channels) l.code ≡ has_channel l.channels l.code
