-- How many cells are the first of their kind.
use Rattle.std.specs.Prelude.{◌≡◌, ℕ, ◌+◌, ◌≤◌, List, take, length, slice_index_or}
use Rattle.cell_value.specs.declared.cell.Cell.{Cell}
use Rattle.cell_value.specs.Cell.{same_cells}
use Rattle.plain_groups.specs.Groups.{firsts}

-- How many of the cells before each place, and before the end, are the first of their kind.
pub record AreFirsts (cells : List Cell) (counts : List ℕ) : Type 0 where
  pub long : length counts ≡ length cells + 1
  pub each : (k : ℕ) → k ≤ length cells → slice_index_or counts k 0 ≡ length (firsts same_cells (take k cells))
