use Rattle.std.proofs.Common.{◌≡◌, ◌++◌, ◌∷◌, map, drop}
use Rattle.plain_facets.proofs.crossed.push_before.Given as goal

abbrev pub invariant-loop-rest : goal.invariant-loop-rest
invariant-loop-rest l = l.out ++ map (λ rest. l.cell ∷ rest) (drop l.rest-index l.rests) ≡ l.fn.out ++ map (λ rest. l.cell ∷ rest) l.rests
