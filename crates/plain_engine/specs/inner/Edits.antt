-- What becomes of the rows of a source.
use Rattle.std.specs.Prelude.{ℕ, ◌+◌, true, Option, Some, None, List, [], ◌∷◌, ◌++◌, map, unwrap_or, if◌then◌else◌}
use Rattle.std.specs.Option.{option_to_list}
use Rattle.cell_value.specs.declared.state.Keyed.{Keyed}
use Rattle.cell_value.specs.declared.cell.Cell.{Cell}
use Rattle.cell_value.specs.Datum.{Datum, datum_of}
use Rattle.cell_value.specs.Datum.{datum_with}
use Rattle.plain_engine.specs.declared.edits.Edit.{Edit}
use Rattle.plain_engine.specs.declared.edits.Edit.TheVariants.{Stay, Remove, Modify}
use Rattle.plain_engine.specs.declared.edits.Edits.{Edits}

-- a row after its edit; None where it is removed
abbrev pub after_edit : Edit → Keyed → Option Keyed
after_edit Stay row = Some row
after_edit Remove row = None
after_edit (Modify new) row = Some new

-- rows after their edits; those without one stay
abbrev pub edited : List Edit → List Keyed → List Keyed
edited [] rows = rows
edited (edit ∷ edits) [] = []
edited (edit ∷ edits) (row ∷ rows) = option_to_list (after_edit edit row) ++ edited edits rows

-- rows after their edits, as they are read; None where an expression is out of range
abbrev pub data_edited : Edits → List Keyed → Option (List Datum)
data_edited edits rows = if edits.overflows then None else Some (map datum_of (edited edits.each rows))

-- a row as it is read, after what was made of it
abbrev pub datum_after : Option Keyed → Keyed → Datum
datum_after now row = datum_of (unwrap_or now row)

-- a row as it is read, after a setting
abbrev pub with_setting : Option (List ℕ × Cell) → Datum → Datum
with_setting None row = row
with_setting (Some setting) row = datum_with setting.0 setting.1 row

-- edits with that of the next row; where an expression is out of range it counts as one that stays
abbrev pub with_edit : Edits → Option Edit → Edits
with_edit edits (Some Stay) =
    record { each = edits.each ++ Stay ∷ []; staying = edits.staying + 1; overflows = edits.overflows }
with_edit edits (Some (Modify new)) =
    record { each = edits.each ++ Modify new ∷ []; staying = edits.staying + 1; overflows = edits.overflows }
with_edit edits (Some Remove) =
    record { each = edits.each ++ Remove ∷ []; staying = edits.staying; overflows = edits.overflows }
with_edit edits None =
    record { each = edits.each ++ Stay ∷ []; staying = edits.staying + 1; overflows = true }
