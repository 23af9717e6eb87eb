-- Rows with units of time, as they are read, and their keys.
use Rattle.std.proofs.Common.{◌≡◌, List, [], ◌∷◌, map, refl, sym, ap, ap₂, ◌∙◌, subst, Result, Ok, Err, IfOk}
use Rattle.cell_value.specs.declared.state.Keyed.{Keyed}
use Rattle.cell_value.specs.Datum.{Datum, datum_of, cell_at, datum_with}
use Rattle.text_kit.specs.declared.memory.OutOfMemory.{OutOfMemory}
use Rattle.plain_rows.specs.declared.transforms.TimeOf.{TimeOf}
use Rattle.plain_rows.specs.Rows.{AreRows, AreKeys, keys_of}
use Rattle.plain_rows.specs.Calculations.{with_cell}
use Rattle.plain_rows.specs.TimeUnits.{unit_span, start_cell, end_cell, with_unit, in_time_units, data_with_unit, data_in_time_units}
use Rattle.plain_rows.proofs.Readings.{reads_with}

unit_reads : (t : TimeOf) (keyed : Keyed) → data_with_unit t (datum_of keyed) ≡ datum_of (with_unit t keyed)
unit_reads t keyed =
    let span = unit_span t.unit (cell_at keyed t.field) in
    ap (datum_with t.out_end (end_cell span)) (reads_with t.out (start_cell span) keyed)
    ∙ reads_with t.out_end (end_cell span) (with_cell t.out (start_cell span) keyed)

units_read : (t : TimeOf) (rows : List Keyed) → map datum_of (in_time_units t rows) ≡ data_in_time_units t (map datum_of rows)
units_read t [] = refl
units_read t (keyed ∷ rows) = ap₂ (λ (datum : Datum) data_. datum ∷ data_) (sym (unit_reads t keyed)) (units_read t rows)

same_keys : (t : TimeOf) (rows : List Keyed) → keys_of (in_time_units t rows) ≡ keys_of rows
same_keys t [] = refl
same_keys t (keyed ∷ rows) = ap (λ keys. keyed.key ∷ keys) (same_keys t rows)

-- what is answered reads as the rule says, and is rows
pub answer_reads : (t : TimeOf) (rows : List Keyed) (result : Result (List Keyed) OutOfMemory) → IfOk result (λ out. out ≡ in_time_units t rows)
    → IfOk result (λ out. map datum_of out ≡ data_in_time_units t (map datum_of rows))
answer_reads t rows (Ok out) e = ap (map datum_of) e ∙ units_read t rows
answer_reads t rows (Err e) h = tt

pub answer_are_rows : (t : TimeOf) (rows : List Keyed) → AreRows rows → (result : Result (List Keyed) OutOfMemory)
    → IfOk result (λ out. out ≡ in_time_units t rows) → IfOk result AreRows
answer_are_rows t rows are (Ok out) e = subst AreKeys (sym (ap keys_of e ∙ same_keys t rows)) are
answer_are_rows t rows are (Err e) h = tt
