-- Entries under strings, as entries under the strings' bytes.
use Rattle.std.specs.Prelude.{ℕ, List, map, String, string_bytes}
use Rattle.std.specs.declared.alloc.Global.{Global}
use Rattle.std.specs.FinMap.{from_sorted}
use Rattle.cell_value.specs.declared.cell.Cell.{Cell}
use Rattle.cell_value.specs.Row.{Cells}

-- a cell under a string, as one under the string's bytes
abbrev pub named : String Global × Cell → List ℕ × Cell
named entry = (string_bytes entry.0, entry.1)

-- the row of entries that are in the order of their names
abbrev pub seen_row : List (String Global × Cell) → Cells
seen_row entries = from_sorted (map named entries)
