use Rattle.std.proofs.Common.{◌≡◌, drop, map}
use Rattle.std.specs.List.{list_any}
use Rattle.vl_rules.specs.Parts.{shows_aggregate}
use Rattle.vl_rules.proofs.meant.any_shows_aggregate.Given as goal

abbrev pub invariant-loop-channel : goal.invariant-loop-channel
invariant-loop-channel l =
    list_any shows_aggregate (map (λ c. c.now) (drop l.channel-index l.channels)) ≡ list_any shows_aggregate (map (λ c. c.now) l.channels)
