-- What operations see from the rows of a partition, by places.
use Rattle.std.specs.Prelude.{ℕ, ◌+◌, ◌-◌, ◌<◌, ◌≤◌, not, Bool, Option, List, [], ◌∷◌, map, take, drop, length, zip, All, slice_get}
use Rattle.std.specs.Prelude.{if◌then◌else◌}
use Rattle.std.specs.Option.{option_map, option_map_or}
use Rattle.std.specs.Ordering.{is_lt}
use Rattle.fixed_num.specs.Ranges.{all_found}
use Rattle.cell_value.specs.declared.cell.Cell.{Cell}
use Rattle.cell_value.specs.declared.cell.Cell.TheVariants.{Null}
use Rattle.cell_value.specs.Datum.{Datum}
use Rattle.plain_rows.specs.declared.transforms.OpOf.{OpOf}
use Rattle.plain_rows.specs.declared.transforms.SortBy.{SortBy}
use Rattle.plain_rows.specs.declared.transforms.WindowOf.{WindowOf}
use Rattle.plain_rows.specs.Rows.{most_listed}
use Rattle.plain_groups.specs.GroupRows.{read_by}
use Rattle.plain_orders.specs.Partitions.{data_at}
use Rattle.plain_windows.specs.declared.frames.Frame.{Frame}
use Rattle.plain_windows.specs.Frames.{peer_order, frame_at, widened}
use Rattle.plain_windows.specs.Windows.{View, windows, window_of}
use Rattle.plain_windows.specs.inner.Rising.{Rises}

-- Places of rows that stand in the order of peers.
pub record AreListed (sort : List SortBy) (rows : List Datum) (places : List ℕ) : Type 0 where
  pub within : All (λ place. place < length rows) places
  pub few : length places ≤ most_listed
  pub rise : Rises (peer_order sort) (data_at rows places)

-- whether a row stands below another, or through its peers
abbrev pub in_front : List SortBy → Bool → Datum → Datum → Bool
in_front sort through x row = if through then not (is_lt (peer_order sort x row)) else is_lt (peer_order sort row x)

-- A number stands between two others, the greater of which is at most n.
pub record IsBetween (least k most n : ℕ) : Type 0 where
  pub low : least ≤ k
  pub high : k ≤ most
  pub within : most ≤ n

-- the elements of a frame
abbrev pub part : {X : Type 0} → Frame → List X → List X
part frame xs = take (frame.to - frame.from) (drop frame.from xs)

-- the cell that an operation reads of the row at a place; null behind the end
abbrev pub cell_in : OpOf → List Datum → ℕ → Cell
cell_in op rows place = option_map_or (λ (other : Datum). read_by op other.cell) (slice_get rows place) Null

-- of elements behind one of which n are the first of those that are alike: how many are before each and before the end
abbrev pub counts_behind : {X : Type 0} → (X → X → Bool) → X → ℕ → List X → List ℕ
counts_behind same x n [] = n ∷ []
counts_behind same x n (y ∷ ys) = n ∷ counts_behind same y (if same x y then n else n + 1) ys

abbrev pub counts : {X : Type 0} → (X → X → Bool) → List X → List ℕ
counts same [] = 0 ∷ []
counts same (x ∷ xs) = 0 ∷ counts_behind same x 1 xs

-- what an operation of windows alone gives; null where its code is of none
abbrev pub alone : ℕ → View → Cell
alone op v = option_map_or (λ (entry : List ℕ × (View → Cell)). entry.1 v) (slice_get windows (op - 12)) Null

-- what an operation with its number sees from a row of a partition, by the rows of the frame
abbrev pub view_with : List SortBy → List Datum → Datum → ℕ → List Datum → OpOf → ℕ → View
view_with sort partition row rank frame op number =
    let read = λ (other : Datum). read_by op other.cell in
    record { partition = partition; row = row; rank = rank; sort = sort; read = read; number = number; frame = map read frame }

-- the rows of the frame of the row at a rank
abbrev pub frame_rows : WindowOf → List Datum → ℕ → List Datum
frame_rows w partition rank =
    let exact = frame_at w.before w.after partition rank in
    if w.ignore_peers then exact else widened w.sort partition exact

-- what each operation gives for a row, under its new name, by what it sees
abbrev pub named_by : (OpOf → ℕ → View) → OpOf × ℕ → Option (List ℕ × Cell)
named_by view op = option_map (λ cell. (op.0.out, cell)) (window_of op.0.op (view op.0 op.1))

abbrev pub cells_by : List OpOf → List ℕ → (OpOf → ℕ → View) → Option (List (List ℕ × Cell))
cells_by ops params view = all_found (map (named_by view) (zip ops params))
