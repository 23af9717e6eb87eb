-- What stands beside cells, by a map.
use Rattle.std.specs.Prelude.{ℕ, Bool, Option, List, map, find, unwrap_or}
use Rattle.std.specs.Option.{option_map}
use Rattle.std.specs.Borrow.{Bor}
use Rattle.std.specs.BTreeMap.{BTreeMap, get_by}
use Rattle.cell_value.specs.declared.cell.Cell.{Cell}
use Rattle.cell_value.specs.declared.cell.Cell.TheVariants.{Null}
use Rattle.cell_value.specs.declared.state.Keyed.{Keyed}
use Rattle.cell_value.specs.Cell.{cell_cmp, same_cells}
use Rattle.cell_value.specs.Datum.{cell_at}
use Rattle.tick_kit.specs.Domains.{ascending}
use Rattle.plain_facets.specs.Facets.{by_beside}

-- what stands beside a cell
abbrev pub beside_at : BTreeMap Cell Cell → Cell → Option Cell
beside_at besides cell = get_by (cell_cmp cell) besides

-- what stands beside a cell where it stands first, if it stands there
abbrev pub first_found : List (Cell × Cell) → Cell → Option Cell
first_found pairs cell = option_map (λ (pair : Cell × Cell). pair.1) (find (λ (pair : Cell × Cell). same_cells pair.0 cell) pairs)

-- what stands beside a cell, null where nothing does
abbrev pub beside_or_null : BTreeMap Cell Cell → Cell → Cell
beside_or_null besides cell = unwrap_or (beside_at besides cell) Null

-- the first cell of a pair behind what stands beside it
abbrev pub behind_its_own : BTreeMap Cell Cell → Cell × Cell → Cell × Cell
behind_its_own besides pair = (beside_or_null besides pair.0, pair.0)

-- the different first cells of pairs, by what stands beside them
abbrev pub in_order_of : Bool → BTreeMap Cell Cell → List (Cell × Cell) → List Cell
in_order_of descending besides pairs = ascending (by_beside descending (beside_or_null besides)) (map (λ (pair : Cell × Cell). pair.0) pairs)

-- whether two pairs have the same first cell
abbrev pub alike_pairs : Cell × Cell → Cell × Cell → Bool
alike_pairs a b = same_cells a.0 b.0

-- the cells of a row behind a reference in two fields
abbrev pub pair_shown : List ℕ → List ℕ → Bor Keyed → Cell × Cell
pair_shown field other row = (cell_at row.now field, cell_at row.now other)
