use Rattle.std.proofs.Common.{◌≡◌, ◌++◌, [], ◌∷◌, map, drop}
use Rattle.plain_facets.specs.inner.Ranks.{cell_of_key}
use Rattle.plain_facets.proofs.ranks.keys_at.Given as goal

abbrev pub invariant-loop-key : goal.invariant-loop-key
invariant-loop-key l = l.made ++ map (λ key. cell_of_key l.at key ∷ []) (drop l.key-index l.keys) ≡ map (λ key. cell_of_key l.at key ∷ []) l.keys
