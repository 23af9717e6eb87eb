-- A row with one more cell.
use Rattle.std.specs.Prelude.{ℕ, List, if◌then◌else◌}
use Rattle.std.specs.FinMap.{insert}
use Rattle.std.specs.Str.{bytes_eq}
use Rattle.cell_value.specs.declared.cell.Cell.{Cell}
use Rattle.cell_value.specs.Datum.{id_name}
use Rattle.cell_value.specs.Row.{Cells}

-- the row with a cell set, but for the name under which every row has its id
abbrev pub with_cell : List ℕ → Cell → Cells → Cells
with_cell name cell row = if bytes_eq name id_name then row else insert row name cell
