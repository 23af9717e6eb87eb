-- The frames of rows in their partitions.
use Rattle.std.specs.Prelude.{◌≡◌, refl, ℕ, ◌+◌, ◌-◌, ◌*◌, ℤ, pos, negsuc, ◌+ℤ◌, not, ◌&&◌, min, Bool, false, Option, Some, None, List}
use Rattle.std.specs.Prelude.{[], ◌∷◌}
use Rattle.std.specs.Prelude.{map, filter, take, drop, length, fold, codes}
use Rattle.std.specs.Option.{option_map_or}
use Rattle.std.specs.declared.cmp.Ordering.{Ordering}
use Rattle.std.specs.Ordering.{is_lt, is_eq}
use Rattle.fixed_num.specs.Number.{million}
use Rattle.cell_value.specs.declared.cell.Cell.TheVariants.{Number}
use Rattle.cell_value.specs.Datum.{Datum}
use Rattle.plain_rows.specs.declared.transforms.SortBy.{SortBy}
use Rattle.plain_orders.specs.Orders.{by_fields, by_key}

-- how two rows stand as peers: by the fields of the order; without one each row is a peer of itself alone
abbrev pub peer_order : List SortBy → Datum → Datum → Ordering
peer_order [] x y = by_key x.key y.key
peer_order (s ∷ sort) x y = by_fields (s ∷ sort) x y

abbrev pub are_peers : List SortBy → Datum → Datum → Bool
are_peers sort x y = is_eq (peer_order sort x y)

-- how many of n rows stand before a place, which may be before them all or behind them all
abbrev pub cut : ℕ → ℤ → ℕ
cut n (pos k) = min n k
cut n (negsuc k) = 0

-- The elements from one to another, both counted from that at a rank, negative before it. Without the first they begin with the list,
-- and without the last they end with it. There may be none.
abbrev pub frame_at : {X : Type 0} → Option ℤ → Option ℤ → List X → ℕ → List X
frame_at before after xs rank =
    let n = length xs in
    let from = option_map_or (λ b. cut n (pos rank +ℤ b)) before 0 in
    let to = option_map_or (λ a. cut n (pos (rank + 1) +ℤ a)) after n in
    take (to - from) (drop from xs)

-- a frame from the first peer of its first row to the last peer of its last; one without rows stays so
abbrev pub widened : List SortBy → List Datum → List Datum → List Datum
widened sort partition [] = []
widened sort partition (first ∷ others) =
    let last = fold (λ earlier row. row) first others in
    filter (λ row. not (is_lt (peer_order sort row first)) && not (is_lt (peer_order sort last row))) partition

-- The rules at work.

-- a row of one number, whatever the name
abbrev pub row_with : ℕ → ℕ → Datum
row_with id v = record { key = record { id = id; branch = 0 }; cell = λ name. Number (pos (v * million)) }

-- 1, 3, 3 and 5
abbrev pub four_rows : List Datum
four_rows = row_with 1 1 ∷ row_with 2 3 ∷ row_with 3 3 ∷ row_with 4 5 ∷ []

abbrev pub by_the_number : List SortBy
by_the_number = record { field = codes "v"; descending = false } ∷ []

abbrev ids : List Datum → List ℕ
ids rows = map (λ (row : Datum). row.key.id) rows

up_to_the_second : ids (frame_at None (Some (pos 0)) four_rows 1) ≡ 1 ∷ 2 ∷ []
up_to_the_second = refl

the_three_after_the_first : ids (frame_at (Some (pos 1)) (Some (pos 3)) four_rows 0) ≡ 2 ∷ 3 ∷ 4 ∷ []
the_three_after_the_first = refl

cut_to_the_partition : ids (frame_at (Some (negsuc 1)) (Some (pos 1)) four_rows 1) ≡ 1 ∷ 2 ∷ 3 ∷ []
cut_to_the_partition = refl

none_after_the_last : frame_at (Some (pos 1)) (Some (pos 3)) four_rows 3 ≡ []
none_after_the_last = refl

the_other_way_round : frame_at (Some (pos 1)) (Some (negsuc 0)) four_rows 1 ≡ []
the_other_way_round = refl

with_the_peers_of_its_last : ids (widened by_the_number four_rows (frame_at None (Some (pos 0)) four_rows 1)) ≡ 1 ∷ 2 ∷ 3 ∷ []
with_the_peers_of_its_last = refl

without_an_order : ids (widened [] four_rows (frame_at None (Some (pos 0)) four_rows 1)) ≡ 1 ∷ 2 ∷ []
without_an_order = refl
