use Rattle.std.proofs.Common.{◌≡◌, ◌++◌, take, drop}
use Rattle.std.specs.List.{list_any}
use Rattle.std.specs.BTreeSet.{contains}
use Rattle.cell_value.specs.declared.cell.Cell.{Cell}
use Rattle.cell_value.specs.Cell.{cell_cmp, same_cells}
use Rattle.plain_groups.specs.Groups.{firsts_behind}
use Rattle.domain_kit.specs.Cells.{in_first_order}
use Rattle.domain_kit.proofs.cells.in_first_order.Given as goal

abbrev pub invariant-loop-cell : goal.invariant-loop-cell
invariant-loop-cell l = record {
  seen : (c : Cell) → contains cell_cmp l.seen c ≡ list_any (same_cells c) (take l.cell-index l.cells);
  found : l.found ++ firsts_behind same_cells (take l.cell-index l.cells) (drop l.cell-index l.cells) ≡ in_first_order l.cells;
}
