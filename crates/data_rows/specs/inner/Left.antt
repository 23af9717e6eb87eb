-- What comes of a text whose values are read one after the other. No public clause cites this.
use Rattle.std.specs.Prelude.{◌≡◌, ℕ, suc, List, length, map, Option, Some, None, Result, Ok, Err}
use Rattle.std.specs.Result.{result_map_both}
use Rattle.text_kit.specs.Answer.{IsFault}
use Rattle.json_exact.specs.declared.json.Json.{Json}
use Rattle.json_exact.specs.declared.value_reader.ValueReader.{ValueReader}
use Rattle.json_exact.specs.Values.{ahead, most_ahead}
use Rattle.cell_value.specs.Row.{Cells}
use Rattle.data_rows.specs.declared.kinds.ParseKind.{ParseKind}
use Rattle.data_rows.specs.declared.text_rows.TextError.{TextError}
use Rattle.data_rows.specs.declared.text_rows.TextError.TheVariants as text
use Rattle.data_rows.specs.Outcome.{Bad, all_rows}
use Rattle.data_rows.specs.JsonRows.{json_row}
use Rattle.data_rows.specs.inner.Ahead.{rows_then}

-- which fault an error stands for, none where memory was refused
abbrev pub cause : TextError → Option TextError
cause (text.Json place) = Some (text.Json place)
cause (text.Fault row field) = Some (text.Fault row field)
cause text.Memory = None

-- the rows, or the bad row as an error
abbrev pub as_text : Result (List Cells) Bad → Result (List Cells) TextError
as_text rows = result_map_both (λ given. given) (λ (bad : Bad). text.Fault bad.0 bad.1) rows

-- the rows that are read, and then those of the values that are left, or why there are none
abbrev pub rows_left : List (List ℕ × ParseKind) → List Cells → Result (List Json) ℕ → Result (List Cells) TextError
rows_left parse rows (Ok trees) = as_text (rows_then rows (all_rows (length rows) (map (json_row parse) trees)))
rows_left parse rows (Err place) = Err (text.Json place)

-- why a text with a bad row gives no rows, by what is left behind that row
abbrev pub bad_before : ℕ → List ℕ → Result (List Json) ℕ → TextError
bad_before row field (Ok trees) = text.Fault row field
bad_before row field (Err place) = text.Json place

-- the same by the reader that is left; at the end there is none, and the rows are all
abbrev pub rows_after : List (List ℕ × ParseKind) → List Cells → Option ValueReader → Result (List Cells) TextError
rows_after parse rows (Some reader) = rows_left parse rows (ahead reader)
rows_after parse rows None = Ok rows

-- more than the values that may still come
abbrev pub room : Option ValueReader → ℕ
room (Some reader) = suc (most_ahead reader)
room None = 0

-- how reading goes on to the whole: with these rows and what is left, or by an error
abbrev pub GoesOn : List (List ℕ × ParseKind) → List Cells → Result (Option ValueReader) TextError → Result (List Cells) TextError → Type 0
GoesOn parse rows (Ok left) whole = rows_after parse rows left ≡ whole
GoesOn parse rows (Err error) whole = IsFault (cause error) whole
