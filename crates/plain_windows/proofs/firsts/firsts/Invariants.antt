use Rattle.std.proofs.Common.{◌≡◌, ℕ, ◌<◌, ◌≤◌, take, length, get_or}
use Rattle.std.specs.List.{list_any}
use Rattle.std.specs.BTreeSet.{contains}
use Rattle.cell_value.specs.declared.cell.Cell.{Cell}
use Rattle.cell_value.specs.Cell.{cell_cmp, same_cells}
use Rattle.plain_groups.specs.Groups.{firsts}
use Rattle.plain_windows.proofs.firsts.firsts.Given as goal

abbrev pub invariant-loop-cell : goal.invariant-loop-cell
invariant-loop-cell l = record {
  long : length l.counts ≡ l.cell-index;
  each : (k : ℕ) → k < l.cell-index → get_or l.counts k 0 ≡ length (firsts same_cells (take k l.cells));
  count : l.n ≡ length (firsts same_cells (take l.cell-index l.cells));
  few : l.n ≤ l.cell-index;
  seen : (c : Cell) → contains cell_cmp l.seen c ≡ list_any (λ z. same_cells z c) (take l.cell-index l.cells);
}
