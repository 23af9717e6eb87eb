use Rattle.std.proofs.Common.{◌≡◌, ◌∷◌, map, flat_map, take}
use Rattle.plain_facets.proofs.crossed.crossed.Given as goal

abbrev pub invariant-loop-cell : goal.invariant-loop-cell
invariant-loop-cell l = l.out ≡ flat_map (λ cell. map (λ rest. cell ∷ rest) l.rests) (take l.cell-index l.cells)
