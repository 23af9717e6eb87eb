-- Cells the other way round.
use Rattle.std.proofs.Common.{◌≡◌, sym}
use Rattle.std.specs.Ordering.{ordering_reverse}
use Rattle.cell_value.specs.declared.cell.Cell.{Cell}
use Rattle.cell_value.specs.Cell.{cell_cmp}
use Rattle.cell_value.specs.inner.CellOrder.{cell_cmp_total}

-- how two cells stand tells how they stand the other way round
pub cells_turned : (a b : Cell) → ordering_reverse (cell_cmp b a) ≡ cell_cmp a b
cells_turned a b = sym (cell_cmp_total.antisymm a b)
