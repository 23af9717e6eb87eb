-- What windows give: an aggregate over a frame, a rank or a neighbour.
use Rattle.std.specs.Prelude.{◌≡◌, refl, ℕ, ◌+◌, ◌-◌, nat_le, nat_lt, pos, Bool, true, false, Option, Some, None, List, [], ◌∷◌}
use Rattle.std.specs.Prelude.{map, filter, drop, length, reverse, zip, slice_get, codes, unwrap_or, if◌then◌else◌}
use Rattle.std.specs.Option.{option_map, option_map_or}
use Rattle.std.specs.Ordering.{is_lt}
use Rattle.fixed_num.specs.Ranges.{all_found}
use Rattle.case_table.specs.Names.{operations}
use Rattle.cell_value.specs.declared.cell.Cell.{Cell}
use Rattle.cell_value.specs.declared.cell.Cell.TheVariants.{Null}
use Rattle.cell_value.specs.declared.state.Keyed.{Keyed}
use Rattle.cell_value.specs.Datum.{Datum, datum_of}
use Rattle.plain_rows.specs.declared.transforms.OpOf.{OpOf}
use Rattle.plain_rows.specs.declared.transforms.SortBy.{SortBy}
use Rattle.plain_rows.specs.declared.transforms.WindowOf.{WindowOf}
use Rattle.plain_rows.specs.Lookups.{with_cells, data_with_cells}
use Rattle.plain_groups.specs.Groups.{firsts}
use Rattle.plain_groups.specs.Aggregates.{aggregate_of, aggregates, count_cell}
use Rattle.plain_groups.specs.GroupRows.{read_by}
use Rattle.plain_orders.specs.Orders.{partition_of, rows_before}
use Rattle.plain_windows.specs.Frames.{peer_order, are_peers, frame_at, widened, four_rows, by_the_number}

-- what an operation sees from a row: its partition in order, how many rows stand before it there, how rows stand as peers, the cell that
-- the operation reads of a row, its number, and those cells of the frame
pub record View : Type 0 where
  pub partition : List Datum
  pub row : Datum
  pub rank : ℕ
  pub sort : List SortBy
  pub read : Datum → Cell
  pub number : ℕ
  pub frame : List Cell

-- the rows that stand before all peers of the row
abbrev pub rows_below : View → List Datum
rows_below v = filter (λ other. is_lt (peer_order v.sort other v.row)) v.partition

-- how many rows stand before the row, and one
abbrev pub row_number : View → Cell
row_number v = count_cell (v.rank + 1)

-- how many rows stand before all peers of the row, and one
abbrev pub rank : View → Cell
rank v = count_cell (length (rows_below v) + 1)

-- the same where peers count as one
abbrev pub dense_rank : View → Cell
dense_rank v = count_cell (length (firsts (are_peers v.sort) (rows_below v)) + 1)

-- the cell of the row at a place; null outside the partition
abbrev pub cell_at_place : View → ℕ → Cell
cell_at_place v place = option_map_or v.read (slice_get v.partition place) Null

-- the cell so many rows before the row, and so many behind it
abbrev pub lag : View → Cell
lag v = if nat_le v.number v.rank then cell_at_place v (v.rank - v.number) else Null

abbrev pub lead : View → Cell
lead v = cell_at_place v (v.rank + v.number)

-- the first and the last cell of the frame; null where it has none
abbrev pub first_value : View → Cell
first_value v = unwrap_or (slice_get v.frame 0) Null

abbrev pub last_value : View → Cell
last_value v = unwrap_or (slice_get (reverse v.frame) 0) Null

-- what the operations give that are of windows alone, beside their names, in the order of the codes
unfoldable pub windows : List (List ℕ × (View → Cell))
windows =
    (codes "row_number", row_number)
    ∷ (codes "rank", rank)
    ∷ (codes "dense_rank", dense_rank)
    ∷ (codes "lag", lag)
    ∷ (codes "lead", lead)
    ∷ (codes "first_value", first_value)
    ∷ (codes "last_value", last_value)
    ∷ []

-- what the operation of a code gives from a row, nothing where a sum overflows; null where the code is of none
abbrev pub window_of : ℕ → View → Option Cell
window_of op v =
    if nat_lt op 12 then aggregate_of op v.frame
    else Some (option_map_or (λ (entry : List ℕ × (View → Cell)). entry.1 v) (slice_get windows (op - 12)) Null)

-- what an operation with its number sees from a row
abbrev pub view_of : WindowOf → List Datum → Datum → OpOf → ℕ → View
view_of w rows row op number =
    let partition = partition_of w.groupby w.sort rows row in
    let rank = length (rows_before w.sort partition row) in
    let exact = frame_at w.before w.after partition rank in
    let frame = if w.ignore_peers then exact else widened w.sort partition exact in
    let read = λ (other : Datum). read_by op other.cell in
    record { partition = partition; row = row; rank = rank; sort = w.sort; read = read; number = number; frame = map read frame }

-- what the operations give for a row, each under its new name; None where one of them overflows
abbrev pub window_cells : WindowOf → List Datum → Datum → Option (List (List ℕ × Cell))
window_cells w rows row =
    all_found (map (λ (op : OpOf × ℕ). option_map (λ cell. (op.0.out, cell)) (window_of op.0.op (view_of w rows row op.0 op.1)))
    (zip w.ops w.params))

-- the rows, each with what the operations give; None where one of them overflows
abbrev pub windowed : WindowOf → List Keyed → Option (List Keyed)
windowed w rows = all_found (map (λ row. option_map (with_cells row) (window_cells w (map datum_of rows) (datum_of row))) rows)

-- the same of rows as they are read
abbrev pub data_windowed : WindowOf → List Datum → Option (List Datum)
data_windowed w rows = all_found (map (λ row. option_map (data_with_cells row) (window_cells w rows row)) rows)

-- The rules at work.

-- the codes of windows are those behind the aggregates
the_names_of_windows : map (λ (entry : List ℕ × (View → Cell)). entry.0) windows ≡ drop 12 operations
unfolding windows
the_names_of_windows = refl

-- what an operation gives for 1, 3, 3 and 5 over the default frame, with peers or without
abbrev gives : Bool → ℕ → Option (List Cell)
gives ignore_peers op = option_map (map (λ (row : Datum). row.cell (codes "s"))) (data_windowed (record {
  ops = record { op = op; field = Some (codes "v"); out = codes "s" } ∷ [];
  params = 1 ∷ [];
  groupby = [];
  sort = by_the_number;
  before = None;
  after = Some (pos 0);
  ignore_peers = ignore_peers;
}) four_rows)

running_sums_with_peers : gives false 4 ≡ Some (count_cell 1 ∷ count_cell 7 ∷ count_cell 7 ∷ count_cell 12 ∷ [])
unfolding aggregates
running_sums_with_peers = refl

running_sums : gives true 4 ≡ Some (count_cell 1 ∷ count_cell 4 ∷ count_cell 7 ∷ count_cell 12 ∷ [])
unfolding aggregates
running_sums = refl

row_numbers : gives false 12 ≡ Some (count_cell 1 ∷ count_cell 2 ∷ count_cell 3 ∷ count_cell 4 ∷ [])
unfolding windows
row_numbers = refl

ranks : gives false 13 ≡ Some (count_cell 1 ∷ count_cell 2 ∷ count_cell 2 ∷ count_cell 4 ∷ [])
unfolding windows
ranks = refl

dense_ranks : gives false 14 ≡ Some (count_cell 1 ∷ count_cell 2 ∷ count_cell 2 ∷ count_cell 3 ∷ [])
unfolding windows
dense_ranks = refl

rows_before_each : gives false 15 ≡ Some (Null ∷ count_cell 1 ∷ count_cell 3 ∷ count_cell 3 ∷ [])
unfolding windows
rows_before_each = refl

rows_behind_each : gives false 16 ≡ Some (count_cell 3 ∷ count_cell 3 ∷ count_cell 5 ∷ Null ∷ [])
unfolding windows
rows_behind_each = refl

last_peers : gives false 18 ≡ Some (count_cell 1 ∷ count_cell 3 ∷ count_cell 3 ∷ count_cell 5 ∷ [])
unfolding windows
last_peers = refl
