use Rattle.std.proofs.Common.{◌≡◌, ◌++◌, drop, map}
use Rattle.vl_rules.specs.Parts.{own_of}
use Rattle.vl_rules.proofs.offers.owns.Given as goal

abbrev pub invariant-loop-channel : goal.invariant-loop-channel
invariant-loop-channel l =
    map (λ d. d.now) l.out ++ map own_of (map (λ c. c.now) (drop l.channel-index l.channels)) ≡ map own_of (map (λ c. c.now) l.channels)
