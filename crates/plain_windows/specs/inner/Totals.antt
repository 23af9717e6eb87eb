-- The totals of cells as they run.
use Rattle.std.specs.Prelude.{◌≡◌, ℕ, ◌+◌, ◌-◌, ◌*◌, ◌≤◌, ◌<◌, ◌==◌, nat_lt, pos, ◌-ℤ◌, int_lt, unsigned_abs, Option, List, [], ◌∷◌, map, sum_by}
use Rattle.std.specs.Prelude.{length, slice_index_or, if◌then◌else◌}
use Rattle.std.specs.Option.{option_map, option_map_or}
use Rattle.fixed_num.specs.Number.{limit, rounded}
use Rattle.fixed_num.specs.Ranges.{in_range}
use Rattle.cell_value.specs.declared.cell.Cell.{Cell}
use Rattle.cell_value.specs.declared.cell.Cell.TheVariants.{Null, Number}
use Rattle.cell_value.specs.Cell.{same_cells}
use Rattle.cell_value.specs.Datum.{Datum}
use Rattle.expr_eval.specs.Numbers.{the_number}
use Rattle.plain_rows.specs.declared.transforms.OpOf.{OpOf}
use Rattle.plain_rows.specs.Rows.{most_listed}
use Rattle.plain_groups.specs.GroupRows.{read_by}
use Rattle.plain_windows.specs.declared.frames.Frame.{Frame}
use Rattle.plain_windows.specs.declared.totals.Total.{Total}

-- what a cell adds to the sum of the numbers that aren't negative, to that of the others, to how many numbers and how many nulls there are
abbrev pub up_of : Cell → ℕ
up_of cell = option_map_or (λ v. if int_lt v (pos 0) then 0 else unsigned_abs v) (the_number cell) 0

abbrev pub down_of : Cell → ℕ
down_of cell = option_map_or (λ v. if int_lt v (pos 0) then unsigned_abs v else 0) (the_number cell) 0

abbrev pub one_if_number : Cell → ℕ
one_if_number cell = option_map_or (λ v. 1) (the_number cell) 0

abbrev pub one_if_null : Cell → ℕ
one_if_null cell = if same_cells cell Null then 1 else 0

abbrev pub no_total : Total
no_total = record { up = 0; down = 0; numbers = 0; nulls = 0 }

abbrev pub total_after : Total → Cell → Total
total_after t cell = record {
  up = t.up + up_of cell;
  down = t.down + down_of cell;
  numbers = t.numbers + one_if_number cell;
  nulls = t.nulls + one_if_null cell;
}

-- A cell that adds no more than a number may.
pub record AddsLittle (cell : Cell) : Type 0 where
  pub up : up_of cell ≤ limit
  pub down : down_of cell ≤ limit

-- Totals of at most n cells.
pub record AtMostSo (t : Total) (n : ℕ) : Type 0 where
  pub up : t.up ≤ t.numbers * limit
  pub down : t.down ≤ t.numbers * limit
  pub numbers : t.numbers ≤ n
  pub nulls : t.nulls ≤ n

-- the totals before each cell and behind the last
abbrev pub totals_from : Total → List Cell → List Total
totals_from t [] = t ∷ []
totals_from t (cell ∷ cells) = t ∷ totals_from (total_after t cell) cells

-- those of the cells that an operation reads
abbrev pub totals_of : List Datum → OpOf → List Total
totals_of rows op = totals_from no_total (map (λ (other : Datum). read_by op other.cell) rows)

-- what cells are together
abbrev pub total_of : List Cell → Total
total_of cells = record {
  up = sum_by up_of cells;
  down = sum_by down_of cells;
  numbers = sum_by one_if_number cells;
  nulls = sum_by one_if_null cells;
}

abbrev pub total_between : Total → Total → Total
total_between a b = record {
  up = b.up - a.up;
  down = b.down - a.down;
  numbers = b.numbers - a.numbers;
  nulls = b.nulls - a.nulls;
}

abbrev pub total_at : List Total → ℕ → Total
total_at totals place = slice_index_or totals place no_total

-- Totals of which none has much more than one before it.
pub record AreSmall (totals : List Total) : Type 0 where
  pub each : (i k : ℕ) → i ≤ k → k < length totals → AtMostSo (total_between (total_at totals i) (total_at totals k)) most_listed

-- The totals of the cells that an operation reads of rows, of which none has much more than one before it.
pub record IsTotaled (rows : List Datum) (op : OpOf) (totals : List Total) : Type 0 where
  pub are : totals ≡ totals_of rows op
  pub small : AreSmall totals

-- what the cells of a frame are together, by the totals
abbrev pub total_in : Frame → List Total → Total
total_in frame totals =
    if nat_lt frame.from frame.to then total_between (total_at totals frame.from) (total_at totals frame.to) else no_total

-- the sum as a cell; nothing where it is out of range
abbrev pub sum_cell : Total → Option Cell
sum_cell t = option_map Number (in_range (pos t.up -ℤ pos t.down))

-- the mean as a cell; null where there is no number
abbrev pub mean_cell : Total → Cell
mean_cell t = if t.numbers == 0 then Null else Number (rounded (pos t.up -ℤ pos t.down) t.numbers)
