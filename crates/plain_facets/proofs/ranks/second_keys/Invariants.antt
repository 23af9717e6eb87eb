use Rattle.std.proofs.Common.{◌≡◌, ◌++◌, map, drop}
use Rattle.plain_facets.proofs.ranks.second_keys.Given as goal

abbrev pub invariant-loop-pair : goal.invariant-loop-pair
invariant-loop-pair l = l.keys ++ map (λ pair. pair.1.items) (drop l.pair-index l.pairs) ≡ map (λ pair. pair.1.items) l.pairs
