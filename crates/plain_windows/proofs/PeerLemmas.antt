-- Rows in the order of peers.
use Rattle.std.proofs.Common.{◌≡◌, ℕ, ◌+◌, ◌-◌, ◌<◌, ◌≤◌, not, ◌&&◌, Bool, true, false, List, [], ◌∷◌, filter, fold, length, take, drop}
use Rattle.std.proofs.Common.{get_or, All, arith, refl, sym, ap, ap₂, ◌∙◌, subst}
use Rattle.std.specs.declared.cmp.Ordering.{Ordering}
use Rattle.std.specs.declared.cmp.Ordering.TheVariants.{Less, Equal, Greater}
use Rattle.std.specs.Ordering.{is_lt, is_gt, ordering_then}
use Rattle.std.proofs.lemmas.Bool.{cond_both}
use Rattle.cell_value.specs.Datum.{Datum}
use Rattle.plain_rows.specs.declared.transforms.SortBy.{SortBy}
use Rattle.plain_rows.specs.Rows.{most_listed}
use Rattle.plain_groups.specs.Groups.{alike}
use Rattle.plain_orders.specs.Orders.{by_fields, by_key, row_order, in_order, cells_of, partition_of}
use Rattle.plain_orders.specs.Partitions.{datum_at, data_at, StandsAt}
use Rattle.plain_windows.specs.declared.frames.Frame.{Frame}
use Rattle.plain_windows.specs.Frames.{peer_order, widened}
use Rattle.plain_windows.specs.inner.Rising.{AtMost, From, Rises}
use Rattle.plain_windows.specs.inner.Views.{AreListed, IsBetween, in_front, part}
use Rattle.plain_windows.proofs.TotalOrders.{row_order_total, peer_order_total, rises_in_order}
use Rattle.plain_windows.proofs.RisingLemmas.{below_is_down, through_is_down, stands_in_front, stands_behind, between}
use Rattle.plain_windows.proofs.PartLemmas.{wide, nothing, there, no_part, first_part, last_part}

not_greater : (r s : Ordering) → is_gt (ordering_then r s) ≡ false → is_gt r ≡ false
not_greater Less s e = refl
not_greater Equal s e = refl
not_greater Greater s e = e

softer : (sort : List SortBy) (x y : Datum) → is_gt (row_order sort x y) ≡ false → is_gt (peer_order sort x y) ≡ false
softer [] x y e = e
softer (s ∷ sort) x y e = not_greater (by_fields (s ∷ sort) x y) (by_key x.key y.key) e

module _ (sort : List SortBy) (q : Datum → Bool) where
  from_kept : (x : Datum) (ys : List Datum) → From (row_order sort) x ys → From (peer_order sort) x (filter q ys)
  from_kept x [] f = tt
  from_kept x (y ∷ ys) f =
      cond_both (q y) (y ∷ filter q ys) (filter q ys) (From (peer_order sort) x) (λ _. (softer sort x y f.0, from_kept x ys f.1))
      (λ _. from_kept x ys f.1)

  rises_kept : (xs : List Datum) → Rises (row_order sort) xs → Rises (peer_order sort) (filter q xs)
  rises_kept [] r = tt
  rises_kept (x ∷ xs) r =
      cond_both (q x) (x ∷ filter q xs) (filter q xs) (Rises (peer_order sort)) (λ _. (from_kept x xs r.0, rises_kept xs r.1))
      (λ _. rises_kept xs r.1)

-- a partition rises in the order of peers
pub partition_rises : (groupby : List (List ℕ)) (sort : List SortBy) (rows : List Datum) (row : Datum)
    → Rises (peer_order sort) (partition_of groupby sort rows row)
partition_rises groupby sort rows row =
    rises_kept sort (alike cells_of groupby row) (in_order (row_order sort) rows) (rises_in_order (row_order_total sort) rows)

pub are_listed : (groupby : List (List ℕ)) (sort : List SortBy) (rows : List Datum) (list : List ℕ) (rank place : ℕ)
    → StandsAt groupby sort rows list rank place → All (λ place. place < length rows) list → length list ≤ most_listed
    → AreListed sort rows list
are_listed groupby sort rows list rank place stands all few = record {
  within = all;
  few = few;
  rise = subst (Rises (peer_order sort)) (sym stands.partition) (partition_rises groupby sort rows (datum_at rows place));
}

module _ (sort : List SortBy) where
  abbrev order : Datum → Datum → Ordering
  order = peer_order sort

  pub front_down : (through : Bool) (x y z : Datum) → AtMost order y z
      → in_front sort through x y ≡ false → in_front sort through x z ≡ false
  front_down true x y z h e = through_is_down order (peer_order_total sort) x y z h e
  front_down false x y z h e = below_is_down order (peer_order_total sort) x y z h e

  module _ (rows : List Datum) (places : List ℕ) (listed : AreListed sort rows places) where
    abbrev all : List Datum
    all = data_at rows places

    module _ (through : Bool) (x : Datum) (least most middle : ℕ) (row : Datum) (is : row ≡ datum_at rows (get_or places middle 0))
        (from : least ≤ middle) (below : middle < most)
        (so_far : IsBetween least (length (filter (in_front sort through x) all)) most (length places)) where
      abbrev passes : Datum → Bool
      passes = in_front sort through x

      inside : middle < length places
      inside = omega (arith, below, so_far.within)

      at_middle : (b : Bool) → passes row ≡ b → passes (get_or all middle (nothing rows places)) ≡ b
      at_middle b e = ap passes (there rows places middle inside ∙ sym is) ∙ e

      pub behind_middle : passes row ≡ true → IsBetween (middle + 1) (length (filter passes all)) most (length places)
      behind_middle e = record {
        low = let found = stands_in_front order passes (front_down through x) all listed.rise middle (nothing rows places)
            (omega (arith, inside, wide rows places))
            (at_middle true e) in omega (arith, found);
        high = so_far.high;
        within = so_far.within;
      }

      pub before_middle : passes row ≡ false → IsBetween least (length (filter passes all)) middle (length places)
      before_middle e = record {
        low = so_far.low;
        high = stands_behind order passes (front_down through x) all listed.rise middle (nothing rows places)
            (omega (arith, inside, wide rows places))
            (at_middle false e);
        within = omega (arith, inside);
      }

    module _ (frame : Frame) (short : frame.to ≤ length places) where
      pub none_widened : frame.to ≤ frame.from → part frame all ≡ widened sort all (part frame all)
      none_widened none = no_part rows places frame none ∙ sym (ap (widened sort all) (no_part rows places frame none))

      module _ (some : frame.from < frame.to) where
        abbrev first_row : Datum
        first_row = get_or all frame.from (nothing rows places)

        abbrev later_rows : List Datum
        later_rows = take (frame.to - (frame.from + 1)) (drop (frame.from + 1) all)

        pub some_widened : (first last : Datum) (found : Frame) → first ≡ datum_at rows (get_or places frame.from 0)
            → last ≡ datum_at rows (get_or places (frame.to - 1) 0) → found.from ≡ length (filter (in_front sort false first) all)
            → found.to ≡ length (filter (in_front sort true last) all) → part found all ≡ widened sort all (part frame all)
        some_widened first last found e f from to =
            let first_is : first ≡ first_row = e ∙ sym (there rows places frame.from (omega (arith, some, short))) in
            let last_so : last ≡ fold (λ earlier row. row) first_row later_rows =
            f ∙ sym (there rows places (frame.to - 1) (omega (arith, some, short))) ∙ sym (last_part rows places frame short some) in
            ap₂ (λ a b. take (b - a) (drop a all)) from to
            ∙ sym (between order (in_front sort false first) (in_front sort true last) (front_down false first) (front_down true last) all
            listed.rise)
            ∙ ap₂ (λ a b. filter (λ row. not (is_lt (peer_order sort row a)) && not (is_lt (peer_order sort b row))) all) first_is last_so
            ∙ sym (ap (widened sort all) (first_part rows places frame short some))
