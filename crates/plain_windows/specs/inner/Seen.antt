-- What rows see in lists of places.
use Rattle.std.specs.Prelude.{◌≡◌, ℕ, ◌<◌, List, [], length, slice_index_or}
use Rattle.std.specs.List.{AllZip}
use Rattle.cell_value.specs.Datum.{Datum}
use Rattle.plain_rows.specs.declared.transforms.WindowOf.{WindowOf}
use Rattle.plain_orders.specs.Partitions.{datum_at, data_at}
use Rattle.plain_windows.specs.Windows.{window_cells}
use Rattle.plain_windows.specs.declared.aids.Aid.{Aid}
use Rattle.plain_windows.specs.inner.Aids.{IsAid}
use Rattle.plain_windows.specs.inner.Views.{AreListed, frame_rows, view_with, cells_by}

-- Lists of places of rows, and for each row a list and its rank there by which the operations give what they give for it.
pub record AreSeen (w : WindowOf) (rows : List Datum) (lists : List (List ℕ))
    (aided : List (List Aid)) (homes ranks : List ℕ) : Type 0 where
  pub homes_long : length homes ≡ length rows
  pub ranks_long : length ranks ≡ length rows
  pub aided_long : length aided ≡ length lists
  pub home : (i : ℕ) → i < length rows → slice_index_or homes i 0 < length lists
  pub listed : (i : ℕ) → i < length rows → AreListed w.sort rows (slice_index_or lists (slice_index_or homes i 0) [])
  pub rank : (i : ℕ) → i < length rows → slice_index_or ranks i 0 < length (slice_index_or lists (slice_index_or homes i 0) [])
  pub itself : (i : ℕ) → i < length rows
      → slice_index_or (slice_index_or lists (slice_index_or homes i 0) []) (slice_index_or ranks i 0) 0 ≡ i
  pub aids : (i : ℕ) → i < length rows → AllZip (IsAid w.sort (data_at rows (slice_index_or lists (slice_index_or homes i 0) []))) w.ops
      (slice_index_or aided (slice_index_or homes i 0) [])
  pub cells : (i : ℕ) → i < length rows → (let partition = data_at rows (slice_index_or lists (slice_index_or homes i 0) []) in
      let rank = slice_index_or ranks i 0 in
      cells_by w.ops w.params (view_with w.sort partition (datum_at rows i) rank (frame_rows w partition rank)))
      ≡ window_cells w rows (datum_at rows i)
