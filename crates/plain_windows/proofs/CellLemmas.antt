-- What operations give from a row of a partition.
use Rattle.std.proofs.Common.{◌≡◌, ℕ, suc, ◌+◌, ◌-◌, ◌<◌, ◌≤◌, false, List, [], ◌∷◌, map, filter, fold, length, take, drop, get_or, reverse}
use Rattle.std.proofs.Common.{Option, Some, unwrap_or, arith, refl, sym, ap, ◌∙◌}
use Rattle.std.specs.Prelude.{slice_get}
use Rattle.std.specs.Option.{option_map_or}
use Rattle.std.proofs.lemmas.List.{length-map, get_or-map, get_or_default, get_or-reverse, length-reverse, length-take}
use Rattle.std.proofs.lemmas.Option.{slice_get_past, slice_get-get_or}
use Rattle.cell_value.specs.declared.cell.Cell.{Cell}
use Rattle.cell_value.specs.declared.cell.Cell.TheVariants.{Null}
use Rattle.cell_value.specs.Datum.{Datum}
use Rattle.plain_rows.specs.declared.transforms.SortBy.{SortBy}
use Rattle.plain_groups.specs.Groups.{firsts}
use Rattle.plain_orders.specs.Partitions.{datum_at, data_at}
use Rattle.plain_windows.specs.declared.frames.Frame.{Frame}
use Rattle.plain_windows.specs.Frames.{are_peers, peer_order}
use Rattle.plain_windows.specs.Windows.{View, windows}
use Rattle.plain_windows.specs.inner.Views.{AreListed, in_front, part, counts, alone}
use Rattle.plain_windows.proofs.RisingLemmas.{front_passes}
use Rattle.plain_windows.proofs.CountLemmas.{counts_are, length_counts, few_firsts}
use Rattle.plain_windows.proofs.TotalOrders.{peer_order_total}
use Rattle.plain_windows.proofs.PartLemmas.{wide, nothing, there, no_part, first_part, last_part}
use Rattle.plain_windows.proofs.PeerLemmas.{front_down}

-- a code of none gives null
pub no_window : (op : ℕ) → 18 < op → (v : View) → Null ≡ alone op v
unfolding windows
no_window op past v =
    sym (ap (λ (entry : Option (List ℕ × (View → Cell))). option_map_or (λ (e : List ℕ × (View → Cell)). e.1 v) entry Null)
    (slice_get_past windows (op - 12) (omega (arith, past))))

module _ (rows : List Datum) (places : List ℕ) where
  abbrev all : List Datum
  all = data_at rows places

  -- the cell that is read of the row at a place
  pub cell_there : (read : Datum → Cell) (i : ℕ) → i < length places
      → read (datum_at rows (get_or places i 0)) ≡ option_map_or read (slice_get all i) Null
  cell_there read i below =
      let inside : i < length all = omega (arith, below, wide rows places) in
      ap read (sym (there rows places i below))
      ∙ sym (ap (λ o. option_map_or read o Null) (slice_get-get_or all i (nothing rows places) inside))

  pub no_cell : (read : Datum → Cell) (i : ℕ) → length places ≤ i → Null ≡ option_map_or read (slice_get all i) Null
  no_cell read i past = sym (ap (λ o. option_map_or read o Null) (slice_get_past all i (omega (arith, past, wide rows places))))

  module _ (sort : List SortBy) (listed : AreListed sort rows places) where
    -- the count at the front of a row is that of the rows below its peers
    pub dense_is : (x : Datum) (k : ℕ) → k ≡ length (filter (in_front sort false x) all) → k ≤ length places
        → get_or (counts (are_peers sort) all) k 0 ≡ length (firsts (are_peers sort) (filter (in_front sort false x) all))
    dense_is x k is few =
        counts_are (peer_order_total sort) all listed.rise k (omega (arith, few, wide rows places))
        ∙ ap (λ l. length (firsts (are_peers sort) l))
        (ap (λ n. take n all) is ∙ sym (front_passes (peer_order sort) (in_front sort false x) (front_down sort false x) all listed.rise))

    module _ (counted : List ℕ) (are : counted ≡ counts (are_peers sort) all) (k : ℕ) (few : k ≤ length places) where
      pub count_within : k < length counted
      count_within = omega (arith, ap length are, length_counts (are_peers sort) all, wide rows places, few)

      pub count_small : get_or counted k 0 ≤ length places
      count_small =
          omega (
            arith,
            ap (λ l. get_or l k 0) are,
            counts_are (peer_order_total sort) all listed.rise k (omega (arith, few, wide rows places)),
            few_firsts (are_peers sort) [] (take k all),
            length-take k all,
            wide rows places,
          )

  module _ (frame : Frame) (short : frame.to ≤ length places) (read : Datum → Cell) where
    pub no_first : frame.to ≤ frame.from → Null ≡ unwrap_or (slice_get (map read (part frame all)) 0) Null
    no_first none = sym (ap (λ l. unwrap_or (slice_get (map read l) 0) Null) (no_part rows places frame none))

    pub no_last : frame.to ≤ frame.from → Null ≡ unwrap_or (slice_get (reverse (map read (part frame all))) 0) Null
    no_last none = sym (ap (λ l. unwrap_or (slice_get (reverse (map read l)) 0) Null) (no_part rows places frame none))

    pub first_is : frame.from < frame.to → read (datum_at rows (get_or places frame.from 0))
        ≡ unwrap_or (slice_get (map read (part frame all)) 0) Null
    first_is some =
        ap read (sym (there rows places frame.from (omega (arith, some, short))))
        ∙ sym (ap (λ l. unwrap_or (slice_get (map read l) 0) Null) (first_part rows places frame short some))

    at_end : (x : Datum) (xs : List Datum) → fold (λ earlier row. row) x xs ≡ get_or (x ∷ xs) (length xs) x
    at_end x [] = refl
    at_end x (y ∷ ys) = at_end y ys ∙ get_or_default (y ∷ ys) (length ys) y x (omega arith)

    last_of : (x : Datum) (xs : List Datum) → slice_get (reverse (map read (x ∷ xs))) 0 ≡ Some (read (fold (λ earlier row. row) x xs))
    last_of x xs =
        let long : length (map read (x ∷ xs)) ≡ suc (length xs) = length-map (x ∷ xs) read in
        let some : 0 < length (reverse (map read (x ∷ xs))) = omega (arith, length-reverse (map read (x ∷ xs)), long) in
        let first : 0 < length (map read (x ∷ xs)) = omega (arith, long) in
        let end : length (map read (x ∷ xs)) - 1 - 0 ≡ length xs = omega (arith, long) in
        slice_get-get_or (reverse (map read (x ∷ xs))) 0 Null some
        ∙ ap Some (get_or-reverse (map read (x ∷ xs)) 0 Null first ∙ ap (λ k. get_or (map read (x ∷ xs)) k Null) end
        ∙ get_or-map read (x ∷ xs) (length xs) x Null (omega arith) ∙ ap read (sym (at_end x xs)))

    pub last_is : frame.from < frame.to → read (datum_at rows (get_or places (frame.to - 1) 0))
        ≡ unwrap_or (slice_get (reverse (map read (part frame all))) 0) Null
    last_is some =
        ap read (sym (there rows places (frame.to - 1) (omega (arith, some, short))) ∙ sym (last_part rows places frame short some))
        ∙ sym (ap (λ l. unwrap_or (slice_get (reverse (map read l)) 0) Null) (first_part rows places frame short some)
        ∙ ap (λ o. unwrap_or o Null) (last_of (get_or all frame.from (nothing rows places))
        (take (frame.to - (frame.from + 1)) (drop (frame.from + 1) all))))
