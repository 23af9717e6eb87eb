-- The values under keys, as a map holds them.
use Rattle.std.specs.Prelude.{List, [], unwrap_or}
use Rattle.std.specs.BTreeMap.{BTreeMap, get_by}
use Rattle.cell_value.specs.declared.cell.Cell.{Cell}
use Rattle.cell_value.specs.Cell.{cell_cmp}

-- the values that a map holds under a key; none where the key is absent
abbrev pub values_held : BTreeMap Cell (List Cell) → Cell → List Cell
values_held held key = unwrap_or (get_by (cell_cmp key) held) []
