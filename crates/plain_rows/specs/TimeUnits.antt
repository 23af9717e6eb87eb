-- The unit of time of an instant put into each row.
use Rattle.std.specs.Prelude.{◌≡◌, refl, true, ℕ, ℤ, Option, None, List, map}
use Rattle.std.specs.Option.{option_and_then, option_map_or}
use Rattle.cell_value.specs.declared.state.Keyed.{Keyed}
use Rattle.cell_value.specs.declared.cell.Cell.{Cell}
use Rattle.cell_value.specs.declared.cell.Cell.TheVariants.{Null, Flag, Number}
use Rattle.cell_value.specs.Cell.{number_in}
use Rattle.cell_value.specs.Datum.{Datum, cell_at, datum_with}
use Rattle.case_table.specs.TimeUnits.{unit_rule}
use Rattle.time_calc.specs.TimeUnits.{span_of}
use Rattle.plain_rows.specs.declared.transforms.TimeOf.{TimeOf}
use Rattle.plain_rows.specs.Calculations.{with_cell}

-- the start and the end of the time unit of a code at a cell; none where the cell is no number in range, or the code no time unit's
abbrev pub unit_span : ℕ → Cell → Option (ℤ × ℤ)
unit_span code cell = option_and_then (λ number. option_and_then (λ rule. span_of rule number) (unit_rule code)) (number_in cell)

-- the start and the end as cells, null where there are none
abbrev pub start_cell : Option (ℤ × ℤ) → Cell
start_cell span = option_map_or (λ s. Number s.0) span Null

abbrev pub end_cell : Option (ℤ × ℤ) → Cell
end_cell span = option_map_or (λ s. Number s.1) span Null

-- the row with the start, and then the end, of the time unit of its field
abbrev pub with_unit : TimeOf → Keyed → Keyed
with_unit t keyed =
    let span = unit_span t.unit (cell_at keyed t.field) in
    with_cell t.out_end (end_cell span) (with_cell t.out (start_cell span) keyed)

-- the rows, each with the start and the end of the time unit of its field
abbrev pub in_time_units : TimeOf → List Keyed → List Keyed
in_time_units t rows = map (with_unit t) rows

-- the same of a row as it is read
abbrev pub data_with_unit : TimeOf → Datum → Datum
data_with_unit t datum =
    let span = unit_span t.unit (datum.cell t.field) in
    datum_with t.out_end (end_cell span) (datum_with t.out (start_cell span) datum)

-- the same of rows as they are read
abbrev pub data_in_time_units : TimeOf → List Datum → List Datum
data_in_time_units t rows = map (data_with_unit t) rows

-- The rules at work.

no_unit_of_a_flag : unit_span 3 (Flag true) ≡ None
no_unit_of_a_flag = refl
