use Rattle.std.proofs.Common.{◌≡◌, ◌==◌, drop}
use Rattle.std.specs.List.{list_any}
use Rattle.vl_normalize.proofs.channels.has_channel.Given as goal

abbrev pub invariant-loop-channel : goal.invariant-loop-channel
invariant-loop-channel l =
    list_any (λ c. c.channel == l.code) (drop l.channel-index l.channels) ≡ list_any (λ c. c.channel == l.code) l.channels
