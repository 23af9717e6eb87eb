-- The first places of cells, by the cells.
use Rattle.std.specs.Prelude.{◌≡◌, ℕ, Option, List}
use Rattle.std.specs.List.{position_from}
use Rattle.std.specs.BTreeMap.{BTreeMap, get_by}
use Rattle.cell_value.specs.declared.cell.Cell.{Cell}
use Rattle.cell_value.specs.Cell.{cell_cmp, same_cells}

-- the place under a cell
abbrev pub place_under : BTreeMap Cell ℕ → Cell → Option ℕ
place_under places v = get_by (cell_cmp v) places

-- each cell is found where it stands first among these, counted from a number on
abbrev pub IsPlaceIndexFrom : BTreeMap Cell ℕ → ℕ → List Cell → Type 0
IsPlaceIndexFrom places n cells = (v : Cell) → place_under places v ≡ position_from (same_cells v) n cells
