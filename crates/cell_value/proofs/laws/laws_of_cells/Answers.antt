use Rattle.cell_value.specs.inner.CellOrder.{cell_cmp_total, only_equal_cells_tie, same_cells_tell}
use Rattle.cell_value.proofs.laws.laws_of_cells.Goals as goal

pub returns : goal.returns
returns c = record { total = cell_cmp_total; ties = only_equal_cells_tie; same = same_cells_tell }
