use Rattle.std.proofs.Common.{◌≡◌, take}
use Rattle.cell_value.specs.declared.cell.Cell.{Cell}
use Rattle.plain_facets.specs.inner.Besides.{beside_at, first_found}
use Rattle.plain_facets.proofs.ordered.besides_of.Given as goal

abbrev pub invariant-loop-pair : goal.invariant-loop-pair
invariant-loop-pair l = (q : Cell) → beside_at l.besides q ≡ first_found (take l.pair-index l.pairs) q
