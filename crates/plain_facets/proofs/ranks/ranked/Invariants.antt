use Rattle.std.proofs.Common.{◌≡◌, ◌++◌, map, drop}
use Rattle.std.specs.List.{enumerate_from}
use Rattle.plain_facets.specs.inner.Ranks.{ranked}
use Rattle.plain_facets.proofs.ranks.ranked.Given as goal

abbrev pub invariant-loop-at : goal.invariant-loop-at
invariant-loop-at l =
    map (λ pair. (pair.0.items, pair.1.items)) l.made.items ++ map (ranked l.columns) (enumerate_from l.at (drop l.at l.keys))
    ≡ map (ranked l.columns) (enumerate_from 0 l.keys)
