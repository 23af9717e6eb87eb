-- Rows as they are read.
use Rattle.std.specs.Prelude.{ℕ, ◌*◌, pos, not, ◌&&◌, List, if◌then◌else◌, codes}
use Rattle.std.specs.Str.{bytes_eq}
use Rattle.fixed_num.specs.Number.{million}
use Rattle.cell_value.specs.declared.cell.Cell.{Cell}
use Rattle.cell_value.specs.declared.cell.Cell.TheVariants.{Number}
use Rattle.cell_value.specs.declared.state.Key.{Key}
use Rattle.cell_value.specs.declared.state.Keyed.{Keyed}
use Rattle.cell_value.specs.Row.{cell_of}

-- the cell under each name
abbrev pub CellAt : Type 0
CellAt = List ℕ → Cell

-- the name under which every row reads as its id
abbrev pub id_name : List ℕ
id_name = codes "_vgsid_"

-- what is read of a row: the id under `_vgsid_`, whatever the row holds there, and null under an absent name
abbrev pub cell_at : Keyed → CellAt
cell_at keyed name = if bytes_eq name id_name then Number (pos (keyed.key.id * million)) else cell_of keyed.row name

-- a row as it is read: its key, and the cell under each name
pub record Datum : Type 0 where
  pub key : Key
  pub cell : CellAt

abbrev pub datum_of : Keyed → Datum
datum_of keyed = record { key = keyed.key; cell = cell_at keyed }

-- a row with a cell under a name, in place of the one that was there; its id reads as before
abbrev pub datum_with : List ℕ → Cell → Datum → Datum
datum_with name cell datum = record {
  key = datum.key;
  cell = λ other. if bytes_eq other name && not (bytes_eq other id_name) then cell else datum.cell other;
}
