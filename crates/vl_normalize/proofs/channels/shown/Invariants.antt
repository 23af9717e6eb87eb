use Rattle.std.proofs.Common.{◌≡◌, drop, map}
use Rattle.vl_normalize.specs.Channels.{shown}
use Rattle.vl_normalize.proofs.channels.shown.Given as goal

abbrev pub invariant-loop-channel : goal.invariant-loop-channel
invariant-loop-channel l = shown (map (λ c. c.now) (drop l.channel-index l.channels)) l.code ≡ shown (map (λ c. c.now) l.channels) l.code
