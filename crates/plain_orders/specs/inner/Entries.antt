-- Rows as they are sorted: by cells, and then by place.
use Rattle.std.specs.Prelude.{◌≡◌, refl, ℕ, ◌+◌, Bool, true, false, List, [], ◌∷◌, map, drop, if◌then◌else◌}
use mathlib.Core.Path.{subst}
use Rattle.std.specs.declared.cmp.Ordering.{Ordering}
use Rattle.std.specs.declared.cmp.Ordering.TheVariants.{Less, Equal, Greater}
use Rattle.std.specs.Ordering.{nat_cmp, bool_cmp, ordering_then, then_cmp, flip_args, on}
use Rattle.std.specs.Cmp.{IsTotalOrder, then_total, on_total, back_total, nat_cmp_total, bool_cmp_total}
use Rattle.std.specs.Cmp.Lexicographic.{slice_cmp, lists_total}
use Rattle.cell_value.specs.declared.cell.Cell.{Cell}
use Rattle.cell_value.specs.declared.cell.Cell.TheVariants.{Null}
use Rattle.cell_value.specs.declared.state.Keyed.{Keyed}
use Rattle.cell_value.specs.Cell.{cell_cmp}
use Rattle.cell_value.specs.Datum.{CellAt, cell_at}
use Rattle.cell_value.specs.inner.CellOrder.{cell_cmp_total}
use Rattle.plain_rows.specs.declared.transforms.SortBy.{SortBy}
use Rattle.plain_orders.specs.declared.entries.SortCell.{SortCell}
use Rattle.plain_orders.specs.declared.entries.SortCell.TheVariants.{Rising, Falling}
use Rattle.plain_orders.specs.declared.entries.Entry.{Entry}

abbrev pub falls : SortCell → Bool
falls (Rising cell) = false
falls (Falling cell) = true

-- how two cells stand by which rows are sorted
abbrev pub sort_cell_cmp : SortCell → SortCell → Ordering
sort_cell_cmp (Rising a) (Rising b) = cell_cmp a b
sort_cell_cmp (Falling a) (Falling b) = cell_cmp b a
sort_cell_cmp a b = bool_cmp (falls a) (falls b)

-- how two entries stand by their cells
abbrev pub entry_cells_cmp : Entry → Entry → Ordering
entry_cells_cmp a b =
    ordering_then (ordering_then (sort_cell_cmp a.first b.first) (sort_cell_cmp a.second b.second)) (slice_cmp sort_cell_cmp a.others b.others)

-- how two entries stand: by their cells, and then by their places
abbrev pub entry_cmp : Entry → Entry → Ordering
entry_cmp a b = ordering_then (entry_cells_cmp a b) (nat_cmp a.place b.place)

abbrev rising : SortCell → Cell
rising (Rising cell) = cell
rising (Falling cell) = Null

abbrev falling : SortCell → Cell
falling (Rising cell) = Null
falling (Falling cell) = cell

then_equal : (r : Ordering) → ordering_then r Equal ≡ r
then_equal Less = refl
then_equal Equal = refl
then_equal Greater = refl

abbrev by_parts : SortCell → SortCell → Ordering
by_parts = then_cmp (on falls bool_cmp) (then_cmp (on rising cell_cmp) (on falling (flip_args cell_cmp)))

parts_decide : (a b : SortCell) → by_parts a b ≡ sort_cell_cmp a b
parts_decide (Rising a) (Rising b) = then_equal (cell_cmp a b)
parts_decide (Rising a) (Falling b) = refl
parts_decide (Falling a) (Rising b) = refl
parts_decide (Falling a) (Falling b) = refl

pub sort_cell_cmp_total : IsTotalOrder sort_cell_cmp
sort_cell_cmp_total =
    subst IsTotalOrder (λ i a b. parts_decide a b i)
    (then_total (on_total falls bool_cmp_total) (then_total (on_total rising cell_cmp_total)
    (on_total falling (back_total cell_cmp_total))))

abbrev first_of : Entry → SortCell
first_of entry = entry.first

abbrev second_of : Entry → SortCell
second_of entry = entry.second

abbrev others_of : Entry → List SortCell
others_of entry = entry.others

abbrev place_of : Entry → ℕ
place_of entry = entry.place

-- the order of entries is total
pub entry_cmp_total : IsTotalOrder entry_cmp
entry_cmp_total =
    then_total
    (then_total (then_total (on_total first_of sort_cell_cmp_total) (on_total second_of sort_cell_cmp_total))
    (on_total others_of (lists_total sort_cell_cmp_total)))
    (on_total place_of nat_cmp_total)

-- the cell by which rows are sorted
abbrev pub sort_cell : SortBy → Cell → SortCell
sort_cell s cell = if s.descending then Falling cell else Rising cell

-- the cells of a row by which rows are sorted
abbrev pub sort_cells : List SortBy → CellAt → List SortCell
sort_cells sort cells = map (λ (s : SortBy). sort_cell s (cells s.field)) sort

-- the cell of the first field of an order; without one the same for all rows
abbrev pub first_cell : List SortBy → CellAt → SortCell
first_cell [] cells = Rising Null
first_cell (s ∷ sort) cells = sort_cell s (cells s.field)

-- a row at a place as it is sorted
abbrev pub entry_of : List SortBy → ℕ → CellAt → Entry
entry_of sort place cells = record {
  first = first_cell sort cells;
  second = first_cell (drop 1 sort) cells;
  others = sort_cells (drop 1 (drop 1 sort)) cells;
  place = place;
}

-- rows as they are sorted, their places counted from i
abbrev pub entries_from : List SortBy → ℕ → List Keyed → List Entry
entries_from sort i [] = []
entries_from sort i (row ∷ rows) = entry_of sort i (cell_at row) ∷ entries_from sort (i + 1) rows
