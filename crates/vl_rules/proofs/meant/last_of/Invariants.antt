use Rattle.std.proofs.Common.{◌≡◌, drop, map}
use Rattle.std.specs.Option.{option_copied}
use Rattle.std.specs.List.{last_or}
use Rattle.vl_rules.specs.Parts.{innermost}
use Rattle.vl_rules.proofs.meant.last_of.Given as goal

abbrev pub invariant-loop-channel : goal.invariant-loop-channel
invariant-loop-channel l =
    last_or (option_copied l.last) (map (λ c. c.now) (drop l.channel-index l.channels)) ≡ innermost (map (λ c. c.now) l.channels)
