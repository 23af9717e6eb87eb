-- A row for each of several fields.
use Rattle.std.specs.Prelude.{◌≡◌, refl, ℕ, ◌+◌, ◌*◌, List, [], ◌∷◌, map, flat_map, length, codes}
use Rattle.std.specs.List.{enumerate_from}
use Rattle.cell_value.specs.declared.state.Key.{Key}
use Rattle.cell_value.specs.declared.state.Keyed.{Keyed}
use Rattle.cell_value.specs.declared.cell.Cell.TheVariants.{Null, Text}
use Rattle.cell_value.specs.Datum.{Datum, cell_at, datum_with}
use Rattle.expr_eval.specs.Plain.{null_row}
use Rattle.plain_rows.specs.declared.transforms.FoldOf.{FoldOf}
use Rattle.plain_rows.specs.Calculations.{with_cell}

-- the key of the row that is made for the field at a place among n
abbrev pub folded_key : ℕ → Key → ℕ → Key
folded_key n key at = record { id = key.id; branch = key.branch * n + at }

-- what a row gives for each field with its place
abbrev pub each_field : {X Y : Type 0} → (X → ℕ → List ℕ → Y) → List (List ℕ) → X → List Y
each_field made fields x = map (λ field. made x field.0 field.1) (enumerate_from 0 fields)

-- the row that is made of a row for a field at a place: the field's name under one name, and then its cell in the row under another
abbrev pub folded_row : FoldOf → Keyed → ℕ → List ℕ → Keyed
folded_row f keyed at field = record (with_cell f.out_value (cell_at keyed field) (with_cell f.out_key (Text field) keyed)) {
  key = folded_key (length f.fields) keyed.key at;
}

-- the rows that are made of a row
abbrev pub folded_of : FoldOf → Keyed → List Keyed
folded_of f = each_field (folded_row f) f.fields

-- the rows that are made of rows, in their order
abbrev pub folded : FoldOf → List Keyed → List Keyed
folded f = flat_map (folded_of f)

-- the same of rows as they are read
abbrev pub data_folded_row : FoldOf → Datum → ℕ → List ℕ → Datum
data_folded_row f datum at field = record (datum_with f.out_value (datum.cell field) (datum_with f.out_key (Text field) datum)) {
  key = folded_key (length f.fields) datum.key at;
}

abbrev pub data_folded : FoldOf → List Datum → List Datum
data_folded f = flat_map (each_field (data_folded_row f) f.fields)

-- The rules at work.

abbrev two_fields : FoldOf
two_fields = record { fields = codes "a" ∷ codes "b" ∷ []; out_key = codes "key"; out_value = codes "value" }

abbrev null_datum : Datum
null_datum = record { key = record { id = 7; branch = 3 }; cell = null_row }

-- a null row, folded
abbrev folded_null : List Datum
folded_null = data_folded two_fields (null_datum ∷ [])

branches_count_on : map (λ (datum : Datum). datum.key.branch) folded_null ≡ 6 ∷ 7 ∷ []
branches_count_on = refl

the_names_of_the_fields : map (λ (datum : Datum). datum.cell (codes "key")) folded_null ≡ Text (codes "a") ∷ Text (codes "b") ∷ []
the_names_of_the_fields = refl

-- both names are one
abbrev one_name : FoldOf
one_name = record { fields = codes "a" ∷ []; out_key = codes "a"; out_value = codes "a" }

the_value_of_the_row_before : map (λ (datum : Datum). datum.cell (codes "a")) (data_folded one_name (null_datum ∷ [])) ≡ Null ∷ []
the_value_of_the_row_before = refl
