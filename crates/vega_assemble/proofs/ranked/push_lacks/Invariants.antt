use Rattle.std.proofs.Common.{◌≡◌, ◌++◌, drop, map}
use Rattle.vega_assemble.specs.Ranked.{lacks_key}
use Rattle.vega_assemble.proofs.ranked.push_lacks.Given as goal

abbrev pub invariant-loop-set : goal.invariant-loop-set
invariant-loop-set l =
    l.out ++ map (lacks_key l.stem l.key) (drop l.set-index l.sets) ≡ l.fn.out ++ map (lacks_key l.stem l.key) l.sets
