use Rattle.std.proofs.Common.{◌≡◌, ◌++◌, map, drop}
use Rattle.plain_facets.specs.inner.Besides.{behind_its_own}
use Rattle.plain_facets.proofs.ordered.falling.Given as goal

abbrev pub invariant-loop-pair : goal.invariant-loop-pair
invariant-loop-pair l = map (λ r. (r.0.0, r.1)) l.made.items ++ map (behind_its_own l.besides) (drop l.pair-index l.pairs)
    ≡ map (behind_its_own l.besides) l.pairs
