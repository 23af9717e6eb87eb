-- Cells that are taken from the rows of another list.
use Rattle.std.specs.Prelude.{◌≡◌, refl, ℕ, true, false, Option, Some, None, List, [], ◌∷◌, map, reverse, find, fold, zip, codes}
use Rattle.cell_value.specs.declared.state.Keyed.{Keyed}
use Rattle.cell_value.specs.declared.cell.Cell.{Cell}
use Rattle.cell_value.specs.declared.cell.Cell.TheVariants.{Null, Flag}
use Rattle.cell_value.specs.Cell.{same_cells}
use Rattle.cell_value.specs.Datum.{CellAt, Datum, cell_at, datum_with}
use Rattle.expr_eval.specs.Plain.{null_row}
use Rattle.plain_rows.specs.declared.transforms.LookupOf.{LookupOf}
use Rattle.plain_rows.specs.Calculations.{with_cell}

-- the last row with a key
abbrev pub last_with : {X : Type 0} → (X → Cell) → Cell → List X → Option X
last_with key c rows = find (λ row. same_cells (key row) c) (reverse rows)

-- the cells that are taken of a row, under their new names; without one all are the default
abbrev pub taken : {X : Type 0} → (X → CellAt) → LookupOf → Option X → List (List ℕ × Cell)
taken cells l (Some row) = zip l.outs (map (cells row) l.fields)
taken cells l None = map (λ out. (out, l.otherwise)) l.outs

-- the cells that a row takes of the last row of another list with the same key
abbrev pub taken_by : {X : Type 0} → (X → CellAt) → LookupOf → List X → X → List (List ℕ × Cell)
taken_by cells l other row = taken cells l (last_with (λ there. cells there l.key_there) (cells row l.key_here) other)

-- cells put into a row one after the other, so that of several under one name the last holds
abbrev pub with_cells : Keyed → List (List ℕ × Cell) → Keyed
with_cells keyed cells = fold (λ row cell. with_cell cell.0 cell.1 row) keyed cells

-- the rows, each with the cells that it takes
abbrev pub looked_up : LookupOf → List Keyed → List Keyed → List Keyed
looked_up l other rows = map (λ row. with_cells row (taken_by cell_at l other row)) rows

-- the same of rows as they are read
abbrev pub data_with_cells : Datum → List (List ℕ × Cell) → Datum
data_with_cells datum cells = fold (λ row cell. datum_with cell.0 cell.1 row) datum cells

abbrev pub data_looked_up : LookupOf → List Datum → List Datum → List Datum
data_looked_up l other rows = map (λ row. data_with_cells row (taken_by (λ (datum : Datum). datum.cell) l other row)) rows

-- The rules at work.

abbrev flag_datum : ℕ → CellAt → Datum
flag_datum id cell = record { key = record { id = id; branch = 0 }; cell = cell }

the_last_row_with_null : data_looked_up
    (record { key_here = codes "k"; key_there = codes "k"; fields = codes "a" ∷ []; outs = codes "b" ∷ []; otherwise = Flag false })
    (flag_datum 1 null_row ∷ datum_with (codes "a") (Flag true) (flag_datum 2 null_row) ∷ []) (flag_datum 3 null_row ∷ [])
    ≡ datum_with (codes "b") (Flag true) (flag_datum 3 null_row) ∷ []
the_last_row_with_null = refl

no_row_with_the_key : data_looked_up
    (record { key_here = codes "k"; key_there = codes "a"; fields = codes "a" ∷ []; outs = codes "b" ∷ []; otherwise = Flag false })
    (datum_with (codes "a") (Flag true) (flag_datum 2 null_row) ∷ []) (flag_datum 3 null_row ∷ [])
    ≡ datum_with (codes "b") (Flag false) (flag_datum 3 null_row) ∷ []
no_row_with_the_key = refl

a_row_that_lacks_the_field : data_looked_up
    (record { key_here = codes "k"; key_there = codes "k"; fields = codes "a" ∷ []; outs = codes "b" ∷ []; otherwise = Flag false })
    (flag_datum 2 null_row ∷ []) (flag_datum 3 null_row ∷ []) ≡ datum_with (codes "b") Null (flag_datum 3 null_row) ∷ []
a_row_that_lacks_the_field = refl
