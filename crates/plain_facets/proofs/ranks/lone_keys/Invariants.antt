use Rattle.std.proofs.Common.{◌≡◌, ◌++◌, [], ◌∷◌, map, drop}
use Rattle.plain_facets.proofs.ranks.lone_keys.Given as goal

abbrev pub invariant-loop-cell : goal.invariant-loop-cell
invariant-loop-cell l = l.keys ++ map (λ cell. cell ∷ []) (drop l.cell-index l.cells) ≡ map (λ cell. cell ∷ []) l.cells
