-- Rows behind references.
use Rattle.std.specs.Prelude.{List, map}
use Rattle.std.specs.Borrow.{Bor}
use Rattle.cell_value.specs.declared.state.Keyed.{Keyed}
use Rattle.cell_value.specs.Datum.{Datum, datum_of}
use Rattle.plain_rows.specs.Rows.{AreKeys}

-- the rows, as they are read
abbrev pub data_of : List (Bor Keyed) → List Datum
data_of rows = map (λ row. datum_of row.now) rows

-- rows with the keys of a list of rows: they rise, their ids are those that rows may have, and there are not too many
abbrev pub AreListed : List Datum → Type 0
AreListed rows = AreKeys (map (λ (row : Datum). row.key) rows)
