use Rattle.std.proofs.Common.{◌≡◌, ◌++◌, drop, flat_map, map}
use Rattle.vl_rules.specs.Parts.{all_of}
use Rattle.vl_rules.proofs.meant.push_several.Given as goal

abbrev pub invariant-loop-channel : goal.invariant-loop-channel
invariant-loop-channel l =
    map (λ d. d.now) l.out ++ flat_map all_of (drop l.channel-index l.channels) ≡ map (λ d. d.now) l.fn.out ++ flat_map all_of l.channels
