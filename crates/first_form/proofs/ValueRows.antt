-- Why the values of the Vega specification of a form are the rows of its opening state.
use Rattle.std.proofs.Common.{◌≡◌, ℕ, ℤ, suc, Bool, true, false, List, [], ◌∷◌, map, None, Ok, refl, sym, ap, ◌∙◌}
use Rattle.std.specs.Str.{bytes_eq}
use Rattle.json_exact.specs.declared.json.Json.{Json, Json-F, out-Json, out-roll-Json}
use Rattle.json_exact.specs.declared.json.Json.TheVariants as json
use Rattle.json_exact.specs.declared.json.Json.TheOpen as level
use Rattle.json_exact.specs.declared.json.Member.{Member}
use Rattle.json_exact.specs.Values.{values_in}
use Rattle.cell_value.specs.declared.state.Keyed.{Keyed}
use Rattle.cell_value.specs.Datum.{id_name}
use Rattle.cell_value.specs.Row.{row_of}
use Rattle.data_rows.specs.Outcome.{RowRead, all_rows, after_row, unless_bad}
use Rattle.data_rows.specs.JsonRows.{fields_in, bad_field_in, parsed_fields, json_row}
use Rattle.first_form.specs.declared.form.Value.{Value}
use Rattle.first_form.specs.Bars.{with_ids}
use Rattle.first_form.specs.Opening.{cells_of, value_row, value_object, values_of}
use Rattle.first_form.specs.Laws.{ValuesAreRows}

opened_text : (text : List ℕ) → out-Json (json.Text text) ≡ level.Text text
opened_text text = ap out-Json (sym (json.rolls-Text text)) ∙ out-roll-Json (level.Text text)

opened_number : (n : ℤ) → out-Json (json.Number n) ≡ level.Number n
opened_number n = ap out-Json (sym (json.rolls-Number n)) ∙ out-roll-Json (level.Number n)

opened_list : (items : List Json) → out-Json (json.List items) ≡ level.List items
opened_list items = ap out-Json (sym (json.rolls-List items)) ∙ out-roll-Json (level.List items)

opened_object : (members : List Member) → out-Json (json.Object members) ≡ level.Object members
opened_object members = ap out-Json (sym (json.rolls-Object members)) ∙ out-roll-Json (level.Object members)

-- the row of an object that is opened
abbrev row_in : Json-F Json Member → RowRead
row_in tree = unless_bad (bad_field_in tree) (row_of (parsed_fields [] (fields_in tree)))

module _ (x y : List ℕ) (value : Value) where
  abbrev members : List Member
  members = record { name = x; value = json.Text value.category } ∷ record { name = y; value = json.Number value.amount } ∷ []

  none_bad : bad_field_in (level.Object members) ≡ None
  none_bad = rw (opened_text value.category, opened_number value.amount) refl

  same_cells : parsed_fields [] (fields_in (level.Object members)) ≡ cells_of x y value
  same_cells = by_names (bytes_eq x id_name) (bytes_eq y id_name) refl refl
    where
      by_names : (b c : Bool) → bytes_eq x id_name ≡ b → bytes_eq y id_name ≡ c
          → parsed_fields [] (fields_in (level.Object members)) ≡ cells_of x y value
      by_names true true p q = rw (p, q) refl
      by_names true false p q = rw (p, q, opened_number value.amount) refl
      by_names false true p q = rw (p, q, opened_text value.category) refl
      by_names false false p q = rw (p, q, opened_text value.category, opened_number value.amount) refl

  row_is : json_row [] (value_object x y value) ≡ Ok (row_of (cells_of x y value))
  row_is =
      ap row_in (opened_object members)
      ∙ (λ i. unless_bad (none_bad i) (row_of (same_cells i)))

rows_are : (x y : List ℕ) (n id : ℕ) (values : List Value)
    → all_rows n (map (json_row []) (map (value_object x y) values))
    ≡ Ok (map (λ (keyed : Keyed). keyed.row) (map (value_row x y) (with_ids id values)))
rows_are x y n id [] = refl
rows_are x y n id (v ∷ vs) =
    ap (λ r. all_rows n (r ∷ map (json_row []) (map (value_object x y) vs))) (row_is x y v)
    ∙ ap (after_row (row_of (cells_of x y v))) (rows_are x y (suc n) (suc id) vs)

pub values_are_rows : ValuesAreRows
values_are_rows form =
    let items = map (value_object form.x form.y) form.values in
    ap (λ tree. all_rows 0 (map (json_row []) (values_in (values_of form) tree))) (opened_list items)
    ∙ rows_are form.x form.y 0 1 form.values
