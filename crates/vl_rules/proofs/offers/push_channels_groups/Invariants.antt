use Rattle.std.proofs.Common.{◌≡◌, ◌++◌, drop, flat_map, map}
use Rattle.vl_rules.specs.Offers.{channel_groups}
use Rattle.vl_rules.proofs.offers.push_channels_groups.Given as goal

abbrev pub invariant-loop-channel : goal.invariant-loop-channel
invariant-loop-channel l =
    l.out ++ flat_map channel_groups (map (λ c. c.now) (drop l.channel-index l.channels)) ≡ l.fn.out ++ flat_map channel_groups (map (λ c. c.now) l.channels)
