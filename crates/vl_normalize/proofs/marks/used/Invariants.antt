use Rattle.std.proofs.Common.{◌≡◌, ◌++◌, drop, map}
use Rattle.vl_normalize.specs.Marks.{used}
use Rattle.vl_normalize.proofs.marks.used.Given as goal

abbrev pub invariant-loop-channel : goal.invariant-loop-channel
invariant-loop-channel l =
    map (λ c. c.now) l.out ++ used l.mark (map (λ c. c.now) (drop l.channel-index l.channels)) ≡ used l.mark (map (λ c. c.now) l.channels)
