use Rattle.std.proofs.Common.{◌≡◌, ◌≤◌, take}
use Rattle.std.specs.Prelude.{count_by}
use Rattle.cell_value.specs.declared.cell.Cell.TheVariants.{Null}
use Rattle.cell_value.specs.Cell.{same_cells}
use Rattle.plain_groups.proofs.aggregates.nulls.Given as goal

abbrev pub invariant-loop-cell : goal.invariant-loop-cell
invariant-loop-cell l = record {
  value : l.n ≡ count_by (λ cell. same_cells cell Null) (take l.cell-index l.cells);
  bound : l.n ≤ l.cell-index;
}
