use Rattle.std.proofs.Common.{◌≡◌, ◌++◌, map, drop}
use Rattle.plain_facets.proofs.ordered.seconds.Given as goal

abbrev pub invariant-loop-pair : goal.invariant-loop-pair
invariant-loop-pair g l = l.cells ++ map (λ pair. pair.1) (drop l.pair-index l.pairs) ≡ map (λ pair. pair.1) l.pairs
