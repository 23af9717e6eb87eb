use Rattle.std.proofs.Common.{◌≡◌, drop, map}
use Rattle.vl_rules.specs.Parts.{owns_at}
use Rattle.vl_rules.proofs.meant.owns_at.Given as goal

abbrev pub invariant-loop-channel : goal.invariant-loop-channel
invariant-loop-channel l =
    owns_at (map (λ c. c.now) (drop l.channel-index l.channels)) l.code ≡ owns_at (map (λ c. c.now) l.channels) l.code
