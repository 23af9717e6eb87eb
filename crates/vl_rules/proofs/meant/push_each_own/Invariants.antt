use Rattle.std.proofs.Common.{◌≡◌, ◌++◌, drop, map}
use Rattle.vl_rules.specs.Parts.{own_of}
use Rattle.vl_rules.proofs.meant.push_each_own.Given as goal

abbrev pub invariant-loop-channel : goal.invariant-loop-channel
invariant-loop-channel l =
    map (λ d. d.now) l.out ++ map own_of (drop l.channel-index l.channels) ≡ map (λ d. d.now) l.fn.out ++ map own_of l.channels
