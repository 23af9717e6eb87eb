-- The bin of a number put into each row.
use Rattle.std.specs.Prelude.{ℕ, ℤ, Option, Some, None, List, map, option_map}
use Rattle.fixed_num.specs.Ranges.{◌>>=◌}
use Rattle.cell_value.specs.declared.cell.Cell.{Cell}
use Rattle.cell_value.specs.declared.state.Keyed.{Keyed}
use Rattle.cell_value.specs.Datum.{CellAt, Datum, cell_at, datum_with}
use Rattle.plain_rows.specs.declared.transforms.BinOf.{BinOf}
use Rattle.plain_rows.specs.Calculations.{with_cell}
use Rattle.plain_rows.specs.TimeUnits.{start_cell, end_cell}
use Rattle.plain_bins.specs.declared.bins.Bins.{Bins}
use Rattle.plain_bins.specs.Extents.{numbers_of, extent_of}
use Rattle.plain_bins.specs.Bins.{bins_of, bin_of}

-- the bins for rows of which this is the least and the greatest number: none without a number, and nothing where they are out of range
abbrev pub chosen : BinOf → Option (ℤ × ℤ) → Option (Option Bins)
chosen b None = Some None
chosen b (Some found) = option_map Some (bins_of b found)

-- a row with the start, and then the end, of the bin of its field
abbrev pub with_bin : {X : Type 0} → (X → CellAt) → (List ℕ → Cell → X → X) → BinOf → Option Bins → X → X
with_bin cells put b bins row =
    let bin = bin_of bins (cells row b.field) in
    put b.out_end (end_cell bin) (put b.out (start_cell bin) row)

-- the rows, each with the start and the end of the bin of its field
abbrev pub in_bins : {X : Type 0} → (X → CellAt) → (List ℕ → Cell → X → X) → BinOf → Option Bins → List X → List X
in_bins cells put b bins rows = map (with_bin cells put b bins) rows

-- the rows in the bins for their numbers; nothing where these are out of range
abbrev pub binned_by : {X : Type 0} → (X → CellAt) → (List ℕ → Cell → X → X) → BinOf → List X → Option (List X)
binned_by cells put b rows = do
  bins ← chosen b (extent_of (numbers_of cells b.field rows))
  Some (in_bins cells put b bins rows)

abbrev pub binned : BinOf → List Keyed → Option (List Keyed)
binned = binned_by cell_at with_cell

-- the same of rows as they are read
abbrev pub data_binned : BinOf → List Datum → Option (List Datum)
data_binned = binned_by (λ (datum : Datum). datum.cell) datum_with
