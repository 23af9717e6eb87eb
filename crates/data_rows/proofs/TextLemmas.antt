-- How rows of a JSON text go on, value by value.
use Rattle.std.proofs.Common.{◌≡◌, ℕ, Option, Some, Result, Ok, Err, List, [], ◌∷◌, ◌++◌, length, refl, sym, ap, subst, ◌∙◌}
use Rattle.fixed_num.specs.Steps.{◌>>=◌}
use Rattle.json_exact.specs.declared.json.Json.{Json}
use Rattle.json_exact.specs.declared.value_reader.ValueReader.{ValueReader}
use Rattle.json_exact.specs.Values.{IsNext, ahead}
use Rattle.cell_value.specs.Row.{Cells}
use Rattle.data_rows.specs.declared.kinds.ParseKind.{ParseKind}
use Rattle.data_rows.specs.Outcome.{numbered}
use Rattle.data_rows.specs.JsonRows.{json_row}
use Rattle.data_rows.specs.inner.Left.{as_text, rows_left}
use Rattle.data_rows.proofs.StepLemmas.{next_row}

-- a value before the others
abbrev with_first : Json → List Json → Result (List Json) ℕ
with_first value others = Ok (value ∷ others)

module _ (parse : List (List ℕ × ParseKind)) (rows : List Cells) where
  read_by : (next : List Cells) (row : Cells) (value : Json) (others : Result (List Json) ℕ) → numbered (length rows) (json_row parse value) ≡ Ok row
      → next ≡ rows ++ row ∷ [] → rows_left parse next others ≡ rows_left parse rows (others >>= with_first value)
  read_by next row value (Ok values) good e =
      ap as_text (next_row (json_row parse) (value ∷ values) value values rows next row _ refl good e refl)
  read_by next row value (Err place) good e = refl

  -- one row more
  pub row_read : (next : List Cells) (row : Cells) (given : Result (List Json) ℕ) (told : Option (Json × ValueReader)) (value : Json × ValueReader)
      → told ≡ Some value → IsNext given (Ok told) → numbered (length rows) (json_row parse value.0) ≡ Ok row → next ≡ rows ++ row ∷ []
      → rows_left parse next (ahead value.1) ≡ rows_left parse rows given
  row_read next row given told value same goes_on good e =
      let is : given ≡ (ahead value.1 >>= with_first value.0) = subst (λ (o : Option (Json × ValueReader)). IsNext given (Ok o)) same goes_on in
      read_by next row value.0 (ahead value.1) good e ∙ sym (ap (rows_left parse rows) is)
