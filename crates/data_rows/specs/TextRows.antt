-- Rows that are given as a JSON text.
use Rattle.std.specs.Prelude.{◌≡◌, ℕ, List, Result, Ok, Err}
use Rattle.json_exact.specs.declared.json.Json.{Json}
use Rattle.json_exact.specs.Reading.{Reads, FaultsAt}
use Rattle.cell_value.specs.Row.{Cells}
use Rattle.data_rows.specs.declared.kinds.ParseKind.{ParseKind}
use Rattle.data_rows.specs.declared.text_rows.TextError.{TextError}
use Rattle.data_rows.specs.declared.text_rows.TextError.TheVariants as text
use Rattle.data_rows.specs.JsonRows.{rows_of_json}

-- The rows of a text are those of the tree that it spells; a row is named exactly where it is that tree's first bad one; and the place of
-- a fault is said exactly where the text spells no tree. Nothing is said where memory was refused.
abbrev pub IsRowsOf : List (List ℕ × ParseKind) → List ℕ → Result (List Cells) TextError → Type 0
IsRowsOf parse bytes (Ok rows) = (tree : Json) × Reads bytes tree × (rows_of_json parse tree ≡ Ok rows)
IsRowsOf parse bytes (Err (text.Fault row field)) = (tree : Json) × Reads bytes tree × (rows_of_json parse tree ≡ Err (row, field))
IsRowsOf parse bytes (Err (text.Json place)) = ((tree : Json) → Reads bytes tree → ⊥) × FaultsAt bytes place
IsRowsOf parse bytes (Err text.Memory) = Unit {0}
