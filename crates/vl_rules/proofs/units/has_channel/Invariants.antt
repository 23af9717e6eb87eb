use Rattle.std.proofs.Common.{◌≡◌, drop, map}
use Rattle.vl_normalize.specs.Channels.{has_channel}
use Rattle.vl_rules.proofs.units.has_channel.Given as goal

abbrev pub invariant-loop-channel : goal.invariant-loop-channel
invariant-loop-channel l =
    has_channel (map (λ c. c.now) (drop l.channel-index l.channels)) l.code ≡ has_channel (map (λ c. c.now) l.channels) l.code
