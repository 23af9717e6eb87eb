use Rattle.std.proofs.Common.{◌≡◌, ◌++◌, drop, map}
use Rattle.vl_normalize.proofs.units.copies_of.Given as goal

abbrev pub invariant-loop-channel : goal.invariant-loop-channel
invariant-loop-channel l = l.out ++ map (λ c. c.now) (drop l.channel-index l.channels) ≡ map (λ c. c.now) l.channels
