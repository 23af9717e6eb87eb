-- The parts of a faceted view. Its fields divide the finished lists of all units below it, an inner facet each part that an outer one makes. The cells of
-- a field are those that these lists, or these parts, have; they stand as those of a discrete domain, by the field's `sort`. Where that is an
-- aggregate it is over the rows of the first unit below, before its inline aggregate, that have the cell, in all panels, and is null for a cell
-- that these lack. Each cell of one field is a panel, and of row and column each pair of cells. Of several headers an inner facet's come first, and in
-- one facet the row's comes before the column's; a header is the display of its field's cell.
use Rattle.std.specs.Prelude.{◌≡◌, refl, ℕ, ◌+◌, ◌%◌, ◌==◌, ◌*◌, max, nat_lt, not, Bool, true, false, ℤ, pos, Option, Some, None, List, [], ◌∷◌}
use Rattle.std.specs.Prelude.{◌++◌, map, filter, flat_map, zip, length, unwrap_or, codes, if◌then◌else◌, slice_get}
use Rattle.std.specs.List.{filter_map, last_or, enumerate_from, list_any}
use Rattle.std.specs.Option.{option_map, option_map_or}
use Rattle.fixed_num.specs.Number.{million}
use Rattle.fixed_num.specs.Ranges.{◌>>=◌, all_found}
use Rattle.cell_value.specs.declared.cell.Cell.{Cell}
use Rattle.cell_value.specs.declared.cell.Cell.TheVariants.{Null, Text}
use Rattle.cell_value.specs.Cell.{cell_cmp, same_cells}
use Rattle.cell_value.specs.Datum.{Datum}
use Rattle.cell_value.specs.Display.{display_of}
use Rattle.cell_value.specs.State.{Dataset}
use Rattle.tick_kit.specs.Domains.{ascending}
use Rattle.expr_eval.specs.Values.{Values}
use Rattle.plain_groups.specs.Aggregates.{aggregate_of, aggregates}
use Rattle.domain_kit.specs.Cells.{in_first_order}
use Rattle.domain_kit.specs.Orders.{in_direction, entry, by_rank}
use Rattle.plain_facets.specs.Facets.{choices, part_of, cells_in, four_rows}
use Rattle.plot_scenes.specs.declared.headers.Header.{Header}
use Rattle.plan_kit.specs.declared.grids.FacetField.{FacetField}
use Rattle.plan_kit.specs.declared.grids.FacetPlan.{FacetPlan}
use Rattle.plan_kit.specs.declared.grids.GridColumns.{GridColumns}
use Rattle.plan_kit.specs.declared.grids.GridColumns.TheVariants as columns
use Rattle.plan_kit.specs.declared.grids.GridPlan.{GridPlan}
use Rattle.plan_kit.specs.declared.orders.CellOrder.{CellOrder}
use Rattle.plan_kit.specs.declared.orders.CellOrder.TheVariants as order
use Rattle.plan_kit.specs.declared.orders.RowsOrder.{RowsOrder}
use Rattle.plan_kit.specs.declared.plan.Plan.{Plan}
use Rattle.chart_meaning.specs.Rows.{unit_rows, rows_begun}

-- ---- copies

-- What a scale scales: cells one by one, or the numbers from one to another.
pub data Domain : Type 0 where
  OfCells : List Cell → Domain
  OfNumbers : ℤ → ℤ → Domain

-- Where a panel of a facet stands in its grid: whether no panel is below it, and whether it is in the first column.
pub record GridSpot : Type 0 where
  -- the number of the facet's view
  pub facet : ℕ
  pub is_last_row : Bool
  pub is_first_column : Bool

-- A copy of a view: in each panel of the facets round it stands one, with its parts of the rows.
pub record Copy : Type 0 where
  -- the rows of each unit, by its number, and those before its aggregate
  pub rows : ℕ → List Datum
  pub begun : ℕ → List Datum
  -- the latter in all panels
  pub all_begun : ℕ → List Datum
  -- the cells of the facets round it by their fields, the outer before the inner; None outside facets
  pub cells : Option (List (List ℕ × Cell))
  -- the headers of these facets, the inner before the outer
  pub headers : List Header
  -- where the panels round it stand
  pub spots : List GridSpot
  -- what the scales scale that belong to it or to a copy round it, each with the number of the scale
  pub domains : List (ℕ × Domain)

-- ---- orders of cells

-- the rows that have a cell under a name
abbrev pub rows_with : List ℕ → List Datum → Cell → List Datum
rows_with name rows cell = filter (λ (row : Datum). same_cells cell (row.cell name)) rows

-- the cell of a field; without a field it is null
abbrev pub cell_under : Option (List ℕ) → Datum → Cell
cell_under field row = option_map_or row.cell field Null

-- what the operation of an order gives over some rows; None where that is out of range
abbrev pub given_over : RowsOrder → List Datum → Option Cell
given_over by rows = aggregate_of by.op (map (cell_under by.field) rows)

-- the rank of a cell: what the operation gives over the rows that have the cell
abbrev pub rank_over : List Datum → RowsOrder → Cell → Option Cell
rank_over rows by cell = given_over by (rows_with by.cell rows cell)

-- the same in a facet, where a cell that no row has is null
abbrev pub given_or_null : RowsOrder → List Datum → Option Cell
given_or_null by [] = Some Null
given_or_null by (row ∷ rows) = given_over by (row ∷ rows)

abbrev pub rank_or_null : List Datum → RowsOrder → Cell → Option Cell
rank_or_null rows by cell = given_or_null by (rows_with by.cell rows cell)

-- distinct cells by their ranks in a direction, cells of one rank ascending; None where a rank is out of range
abbrev pub by_ranks : Bool → (Cell → Option Cell) → List Cell → Option (List Cell)
by_ranks descends rank cells =
    option_map (by_rank descends) (all_found (map (λ cell. option_map (λ r. entry r cell) (rank cell)) (ascending cell_cmp cells)))

-- distinct cells as a list has them that occur, and then the rest ascending
abbrev pub occurs_in : List Cell → Cell → Bool
occurs_in cells cell = list_any (same_cells cell) cells

abbrev pub as_listed : List Cell → List Cell → List Cell
as_listed listed cells = in_first_order (filter (occurs_in cells) listed ++ ascending cell_cmp cells)

-- The distinct ones of some cells, in an order, where each has such a rank by rows. None where a rank is out of range.
abbrev pub cells_in_order : (RowsOrder → Cell → Option Cell) → CellOrder → List Cell → Option (List Cell)
cells_in_order rank order.First cells = Some (in_first_order cells)
cells_in_order rank order.Up cells = Some (in_direction false cells)
cells_in_order rank order.Down cells = Some (in_direction true cells)
cells_in_order rank (order.Listed listed) cells = Some (as_listed listed cells)
cells_in_order rank (order.ByRows by) cells = by_ranks by.descending (rank by) cells

-- ---- the cells of a facet

-- the cells of a field in the rows of the units below, unit after unit
abbrev pub cells_below : Copy → List ℕ → List ℕ → List Cell
cells_below copy units name = flat_map (λ unit. cells_in name (copy.rows unit)) units

-- the rank of a cell of a facet, over the rows of all panels
abbrev pub facet_rank : Copy → RowsOrder → Cell → Option Cell
facet_rank copy by cell = rank_or_null (copy.all_begun by.unit) by cell

-- the distinct cells of a field in their order; None where one that its order asks is out of range
abbrev pub field_cells : Copy → List ℕ → FacetField → Option (List Cell)
field_cells copy units field = cells_in_order (facet_rank copy) field.order (cells_below copy units field.name)

abbrev pub facet_cells : Copy → FacetPlan → Option (List (List Cell))
facet_cells copy f = all_found (map (field_cells copy f.units) f.fields)

-- the same where all are in range: each rank is over the rows of all panels, so those of a part are in range where those of the whole are
abbrev pub cells_of_facet : Copy → FacetPlan → List (List Cell)
cells_of_facet copy f = unwrap_or (facet_cells copy f) []

-- ---- grids

-- how many cells of a grid stand side by side, at least one: all, as many as is said, or one for each cell of the last field
abbrev pub last_length : List (List Cell) → ℕ
last_length fields = option_map_or length (last_or None fields) 0

abbrev pub columns_asked : GridColumns → List (List Cell) → ℕ → ℕ
columns_asked columns.OneRow fields count = count
columns_asked (columns.Count n) fields count = n
columns_asked columns.Crossed fields count = last_length fields

abbrev pub columns_for : GridColumns → List (List Cell) → ℕ → ℕ
columns_for asked fields count = max (columns_asked asked fields count) 1

-- the spot of the panel of an index in a facet's grid of so many panels in so many columns
abbrev pub spot_at : ℕ → ℕ → ℕ → ℕ → GridSpot
spot_at facet width count index = record {
  facet = facet;
  is_last_row = not (nat_lt (index + width) count);
  is_first_column = (index % width) == 0;
}

-- ---- panels

-- the header of a field's cell, if the field heads panels
abbrev pub header_for : FacetField × Cell → Option Header
header_for headed =
    if headed.0.labels then Some (record { is_beside = headed.0.is_beside; text = display_of headed.1 }) else None

abbrev pub headers_for : List FacetField → List Cell → List Header
headers_for fields key = filter_map header_for (zip fields key)

-- the names of the fields of a facet
abbrev pub names_of : FacetPlan → List (List ℕ)
names_of f = map (λ (field : FacetField). field.name) f.fields

-- the parts of lists whose rows have these cells under these names
abbrev pub parts_of : List (List ℕ) → List Cell → (ℕ → List Datum) → ℕ → List Datum
parts_of names key rows unit = part_of names key (rows unit)

-- the copy in the panel of these cells, which stands at this spot
abbrev pub copy_with : FacetPlan → Copy → GridSpot → List Cell → Copy
copy_with f outer spot key = record outer {
  rows = parts_of (names_of f) key outer.rows;
  begun = parts_of (names_of f) key outer.begun;
  cells = Some (unwrap_or outer.cells [] ++ zip (names_of f) key);
  headers = headers_for f.fields key ++ outer.headers;
  spots = spot ∷ outer.spots;
}

abbrev pub copies_with : ℕ → GridColumns → FacetPlan → Copy → List (List Cell) → List (List Cell) → List Copy
copies_with number asked f outer fields keys =
    map (λ (panel : ℕ × List Cell). copy_with f outer (spot_at number (columns_for asked fields (length keys)) (length keys) panel.0) panel.1)
    (enumerate_from 0 keys)

-- the copies of what a facet shows in its panels: each choice of a cell of each field is one
abbrev pub copies_by : ℕ → GridColumns → Copy → FacetPlan → List Copy
copies_by number asked outer f = copies_with number asked f outer (cells_of_facet outer f) (choices (cells_of_facet outer f))

-- the copies of the views in a grid: of joined views the one round them
abbrev pub copies_in : GridPlan → Copy → List Copy
copies_in grid outer = option_map_or (copies_by grid.number grid.columns outer) grid.facet (outer ∷ [])

-- how many cells of a grid stand side by side, of so many
abbrev pub columns_of : GridPlan → Copy → ℕ → ℕ
columns_of grid outer count = columns_for grid.columns (option_map_or (cells_of_facet outer) grid.facet []) count

-- ---- the whole

-- the list of a unit by its number
abbrev pub list_at : List (List Datum) → ℕ → List Datum
list_at lists unit = unwrap_or (slice_get lists unit) []

-- the chart itself as a copy, outside facets, where units have these rows
abbrev pub copy_over : List (List Datum) → List (List Datum) → Copy
copy_over rows begun = record {
  rows = list_at rows;
  begun = list_at begun;
  all_begun = list_at begun;
  cells = None;
  headers = [];
  spots = [];
  domains = [];
}

-- the cells of the facet of a grid over the rows of all panels, if it has one
abbrev pub grid_cells : Copy → GridPlan → Option (List (List Cell))
grid_cells copy grid = option_map_or (facet_cells copy) grid.facet (Some [])

-- The chart itself as a copy. None where a list or an order of a facet's cells is out of range, or a step mentions a lost parameter.
abbrev pub whole_copy : Values → List Dataset → Plan → Option Copy
whole_copy values sources p = do
  rows ← all_found (map (unit_rows values sources) p.units)
  begun ← all_found (map (rows_begun values sources) p.units)
  cells ← all_found (map (grid_cells (copy_over rows begun)) p.grids)
  Some (copy_over rows begun)

-- The rules at work.

abbrev x : Cell
x = Text (codes "x")

abbrev y : Cell
y = Text (codes "y")

abbrev z : Cell
z = Text (codes "z")

-- a unit whose rows have y, x, y and z under `a`, p, q, q and p under `b`, and 5, 7, 1 and 5 under `v`
abbrev pub a_copy : Copy
a_copy = record {
  rows = λ unit. four_rows;
  begun = λ unit. four_rows;
  all_begun = λ unit. four_rows;
  cells = None;
  headers = [];
  spots = [];
  domains = [];
}

abbrev by_sum : Bool → CellOrder
by_sum descends = order.ByRows record { unit = 0; cell = codes "a"; op = 4; field = Some (codes "v"); descending = descends }

abbrev a_field : List ℕ → CellOrder → FacetField
a_field name by = record { name = name; order = by; is_beside = false; labels = true }

abbrev cells_by : CellOrder → Option (List Cell)
cells_by by = field_cells a_copy (0 ∷ []) (a_field (codes "a") by)

orders_of_a_field : (cells_by order.First ≡ Some (y ∷ x ∷ z ∷ [])) × (cells_by order.Up ≡ Some (x ∷ y ∷ z ∷ []))
    × (cells_by order.Down ≡ Some (z ∷ y ∷ x ∷ []))
orders_of_a_field = (refl, refl, refl)

-- a listed cell that doesn't occur isn't there, and the rest follows ascending
a_listed_order : cells_by (order.Listed (z ∷ Null ∷ [])) ≡ Some (z ∷ x ∷ y ∷ [])
a_listed_order = refl

-- y has 5 and 1, x has 7, z has 5
an_order_by_rows : (cells_by (by_sum false) ≡ Some (z ∷ y ∷ x ∷ [])) × (cells_by (by_sum true) ≡ Some (x ∷ y ∷ z ∷ []))
unfolding aggregates
an_order_by_rows = (refl, refl)

-- a cell that the rows lack is null in a facet, and stands before numbers
a_cell_that_is_lacking : cells_in_order (rank_or_null four_rows) (by_sum false) (Null ∷ x ∷ []) ≡ Some (Null ∷ x ∷ [])
unfolding aggregates
a_cell_that_is_lacking = refl

-- the ids of the rows of each panel
abbrev ids : Copy → List ℕ
ids copy = map (λ (row : Datum). row.key.id) (copy.rows 0)

abbrev pub by_a : GridPlan
by_a = record {
  number = 0;
  facet = Some (record { fields = a_field (codes "a") order.Up ∷ []; units = 0 ∷ [] });
  columns = columns.OneRow;
  spacing = pos (20 * million);
  title = None;
}

the_panels_of_a_field : map ids (copies_in by_a a_copy) ≡ (2 ∷ []) ∷ (1 ∷ 3 ∷ []) ∷ (4 ∷ []) ∷ []
the_panels_of_a_field = refl

-- each is headed by its cell, unless its field heads none
abbrev headed : Bool → FacetField
headed labels = record (a_field (codes "a") order.Up) { labels = labels }

headers_of_panels : (headers_for (headed true ∷ []) (x ∷ []) ≡ record { is_beside = false; text = codes "x" } ∷ [])
    × (headers_for (headed false ∷ []) (x ∷ []) ≡ [])
headers_of_panels = (refl, refl)

-- each pair of a row and a column is a panel, also one without rows
abbrev by_a_and_b : GridPlan
by_a_and_b = record by_a {
  facet = Some (record {
    fields = record (a_field (codes "a") order.Up) { is_beside = true } ∷ a_field (codes "b") order.Up ∷ [];
    units = 0 ∷ [];
  });
  columns = columns.Crossed;
}

the_panels_of_rows_and_columns : (map ids (copies_in by_a_and_b a_copy) ≡ [] ∷ (2 ∷ []) ∷ (1 ∷ []) ∷ (3 ∷ []) ∷ (4 ∷ []) ∷ [] ∷ [])
    × (columns_of by_a_and_b a_copy 6 ≡ 2) × (columns_of by_a a_copy 3 ≡ 3)
the_panels_of_rows_and_columns = (refl, refl, refl)

-- an inner facet has the cells of its part, and in an empty one none
abbrev by_b : GridPlan
by_b = record by_a { facet = Some (record { fields = a_field (codes "b") order.Up ∷ []; units = 0 ∷ [] }) }

facets_in_facets : map (λ copy. length (copies_in by_b copy)) (copies_in by_a a_copy) ≡ 1 ∷ 2 ∷ 1 ∷ []
facets_in_facets = refl

-- below the first of three columns of five panels there is one more row
spots_in_a_grid : (spot_at 7 3 5 0 ≡ record { facet = 7; is_last_row = false; is_first_column = true })
    × (spot_at 7 3 5 2 ≡ record { facet = 7; is_last_row = true; is_first_column = false })
    × (spot_at 7 3 5 3 ≡ record { facet = 7; is_last_row = true; is_first_column = true })
spots_in_a_grid = (refl, refl, refl)
