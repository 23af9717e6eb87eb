-- Where rows stand by their keys.
use Rattle.std.specs.Prelude.{◌≡◌, ℕ, Option, Some, List, slice_get, fold, if◌then◌else◌}
use Rattle.std.specs.Option.{option_and_then}
use Rattle.std.specs.BTreeMap as tree
use Rattle.cell_value.specs.declared.state.Keyed.{Keyed}
use Rattle.cell_value.specs.declared.cell.Cell.{Cell}
use Rattle.cell_value.specs.Cell.{cell_cmp, same_cells}
use Rattle.plain_rows.specs.Lookups.{last_with}

-- the row at the place of a key
abbrev pub place_row : tree.BTreeMap Cell ℕ → List Keyed → Cell → Option Keyed
place_row places rows c = option_and_then (slice_get rows) (tree.get cell_cmp places c)

-- at the place of each key stands the last row with it
abbrev pub ArePlaces : (Keyed → Cell) → List Keyed → tree.BTreeMap Cell ℕ → Type 0
ArePlaces key rows places = (c : Cell) → place_row places rows c ≡ last_with key c rows

-- the last row with a key among rows, or else what was found before
abbrev pub later : {X : Type 0} → (X → Cell) → Cell → Option X → List X → Option X
later key c found rows = fold (λ found row. if same_cells (key row) c then Some row else found) found rows
