-- Rows by where they stand in their partitions.
use Rattle.std.specs.Prelude.{◌≡◌, ℕ, ◌<◌, ◌≤◌, List, [], map, take, length, slice_index_or, All}
use Rattle.cell_value.specs.declared.cell.Cell.TheVariants.{Null}
use Rattle.cell_value.specs.Datum.{Datum}
use Rattle.plain_rows.specs.declared.transforms.SortBy.{SortBy}
use Rattle.plain_orders.specs.Orders.{partition_of, rows_before}

-- the row at a place
abbrev pub datum_at : List Datum → ℕ → Datum
datum_at rows place = slice_index_or rows place (record { key = record { id = 0; branch = 0 }; cell = λ name. Null })

-- the rows at places
abbrev pub data_at : List Datum → List ℕ → List Datum
data_at rows places = map (datum_at rows) places

-- A row stands in a list of places at a rank: these are the places of its partition in order, it is at the rank, and the rows before
-- it are those that stand before it.
pub record StandsAt (groupby : List (List ℕ)) (sort : List SortBy) (rows : List Datum) (list : List ℕ) (rank place : ℕ) : Type 0 where
  pub partition : data_at rows list ≡ partition_of groupby sort rows (datum_at rows place)
  pub within : rank < length list
  pub itself : slice_index_or list rank 0 ≡ place
  pub before : data_at rows (take rank list) ≡ rows_before sort (partition_of groupby sort rows (datum_at rows place)) (datum_at rows place)

-- The partitions of rows: lists of places, and for each row which list is that of its partition, and its rank there.
pub record ArePartitions (groupby : List (List ℕ)) (sort : List SortBy) (rows : List Datum) (lists : List (List ℕ))
    (homes ranks : List ℕ) : Type 0 where
  pub places : (k : ℕ) → k < length lists → All (λ place. place < length rows) (slice_index_or lists k [])
  pub few : (k : ℕ) → k < length lists → length (slice_index_or lists k []) ≤ length rows
  pub homes_long : length homes ≡ length rows
  pub ranks_long : length ranks ≡ length rows
  pub home : (place : ℕ) → place < length rows → slice_index_or homes place 0 < length lists
  pub stands : (place : ℕ) → place < length rows
      → StandsAt groupby sort rows (slice_index_or lists (slice_index_or homes place 0) []) (slice_index_or ranks place 0) place
