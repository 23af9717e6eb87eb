-- Elements in order, where repeated ones are left out before.
use Rattle.std.proofs.Common.{◌≡◌, Bool, true, false, cond, ◌||◌, List, [], ◌∷◌, ◌++◌, map, Some, unwrap_or, refl, sym, ap, ap₂, subst, ◌∙◌}
use Rattle.std.specs.Prelude.{find}
use Rattle.std.specs.Option.{option_map}
use Rattle.std.proofs.lemmas.List.{map-append}
use Rattle.std.specs.List.{list_any}
use Rattle.std.specs.Ordering.{ordering_reverse, ordering_then}
use Rattle.std.specs.declared.cmp.Ordering.{Ordering}
use Rattle.std.specs.declared.cmp.Ordering.TheVariants.{Less, Equal, Greater}
use Rattle.std.specs.Cmp.{IsTotalOrder, tied_itself}
use Rattle.std.specs.Cmp.Lexicographic.{slice_cmp}
use Rattle.std.specs.FinMap.{slice_cmp-IsAntisymmetric}
use Rattle.std.specs.Ordering.{nat_cmp}
use Rattle.cell_value.specs.declared.cell.Cell.{Cell}
use Rattle.cell_value.specs.declared.cell.Cell.TheVariants.{Null}
use Rattle.cell_value.specs.Cell.{cell_cmp, same_cells}
use Rattle.cell_value.specs.inner.CellOrder.{only_equal_cells_tie, same_cells_tell}
use Rattle.tick_kit.specs.Domains.{placed_in, ascending}
use Rattle.plain_groups.specs.Groups.{firsts_behind, firsts}
use Rattle.plain_groups.proofs.PlaceLemmas.{by_cases, same_are_equal}
use Rattle.plain_facets.specs.Facets.{is_key, distinct_keys, by_places, places_among, by_beside, first_beside, by_firsts}
use Rattle.plain_facets.specs.inner.Besides.{alike_pairs}
use Rattle.plain_facets.proofs.OrderLemmas.{by_ordering, placed_all, placed_all-push}
use Rattle.plain_facets.proofs.DifferentLemmas.{by_beside_total, by_places_total}

module _ {X : Type 0} (order : X → X → Ordering) (total : IsTotalOrder order) (exact : (x y : X) → order x y ≡ Equal → x ≡ y) where
  -- an element put into its place twice stands there once
  placed_twice : (x : X) (xs : List X) → placed_in order x (placed_in order x xs) ≡ placed_in order x xs
  placed_twice x [] = rw (tied_itself total x) refl
  placed_twice x (y ∷ ys) =
      by_ordering (order x y)
      (λ h. rw (h, tied_itself total x) refl)
      (λ h. rw (h, h) refl)
      (λ h. rw (h, h) (ap (λ l. y ∷ l) (placed_twice x ys)))

  -- it doesn't matter which of two is put into its place first
  lesser_placed : (x y : X) → order x y ≡ Less → (zs : List X) → placed_in order x (placed_in order y zs) ≡ placed_in order y (placed_in order x zs)
  lesser_placed x y less [] = rw (less, total.antisymm y x ∙ ap ordering_reverse less) refl
  lesser_placed x y less (z ∷ zs) =
      let more : order y x ≡ Greater = total.antisymm y x ∙ ap ordering_reverse less in
      by_ordering (order y z)
      (λ h. rw (h, total.trans x y z less h, less, more, h) refl)
      (λ h. rw (h, ap (order x) (sym (exact y z h)) ∙ less, more, h) refl)
      (λ h. by_ordering (order x z)
      (λ k. rw (h, k, more, h) refl)
      (λ k. rw (h, k, h) refl)
      (λ k. rw (h, k, h) (ap (λ l. z ∷ l) (lesser_placed x y less zs))))

  pub placed_either_way : (x y : X) (zs : List X) → placed_in order x (placed_in order y zs) ≡ placed_in order y (placed_in order x zs)
  placed_either_way x y zs =
      by_ordering (order x y)
      (λ h. lesser_placed x y h zs)
      (λ h. subst (λ w. placed_in order x (placed_in order w zs) ≡ placed_in order w (placed_in order x zs)) (exact x y h) refl)
      (λ h. sym (lesser_placed y x (total.antisymm y x ∙ ap ordering_reverse h) zs))

  placed_through : (before : List X) (x : X) (found : List X)
      → placed_all order before (placed_in order x found) ≡ placed_in order x (placed_all order before found)
  placed_through [] x found = refl
  placed_through (b ∷ bs) x found = ap (placed_in order b) (placed_through bs x found) ∙ placed_either_way b x (placed_all order bs found)

  module _ (same : X → X → Bool) (equal : (x y : X) → same x y ≡ true → x ≡ y) where
    -- one of those that are put behind changes nothing
    placed_already : (before : List X) (x : X) (found : List X) → list_any (λ y. same y x) before ≡ true
        → placed_all order before (placed_in order x found) ≡ placed_all order before found
    placed_already [] x found seen = absurd (cc)
    placed_already (b ∷ bs) x found seen =
        by_cases (same b x)
        (λ e. subst (λ z. placed_all order (z ∷ bs) (placed_in order x found) ≡ placed_all order (z ∷ bs) found) (sym (equal b x e))
        (ap (placed_in order x) (placed_through bs x found) ∙ placed_twice x (placed_all order bs found)))
        (λ e. ap (placed_in order b) (placed_already bs x found (sym (ap (λ c. c || list_any (λ y. same y x) bs) e) ∙ seen)))

    firsts_placed : (before xs : List X)
        → placed_all order before (ascending order (firsts_behind same before xs)) ≡ placed_all order before (ascending order xs)
    firsts_placed before [] = refl
    firsts_placed before (x ∷ xs) =
        let later : List X = firsts_behind same (before ++ x ∷ []) xs in
        let whole : List X = placed_all order before (ascending order (x ∷ xs)) in
        let here : placed_all order before (placed_in order x (ascending order later)) ≡ whole =
        sym (placed_all-push order before x (ascending order later))
        ∙ firsts_placed (before ++ x ∷ []) xs ∙ placed_all-push order before x (ascending order xs) in
        by_cases (list_any (λ y. same y x) before)
        (λ e. ap (λ b. placed_all order before (ascending order (cond b later (x ∷ later)))) e ∙ sym (placed_already before x (ascending order later) e) ∙ here)
        (λ e. ap (λ b. placed_all order before (ascending order (cond b later (x ∷ later)))) e ∙ here)

    -- elements in order are the first of each in order
    pub ascending_firsts : (xs : List X) → ascending order (firsts same xs) ≡ ascending order xs
    ascending_firsts xs = firsts_placed [] xs

last_equal : (r s : Ordering) → ordering_then r s ≡ Equal → s ≡ Equal
last_equal Less s e = absurd (cc)
last_equal Equal s e = e
last_equal Greater s e = absurd (cc)

-- keys in order are the different keys in order
pub distinct_in_places : (fields : List (List Cell)) (keys : List (List Cell))
    → ascending (by_places fields) (distinct_keys keys) ≡ ascending (by_places fields) keys
distinct_in_places fields keys =
    ascending_firsts (by_places fields) (by_places_total fields)
    (λ a b e. slice_cmp-IsAntisymmetric only_equal_cells_tie a b
    (last_equal (slice_cmp nat_cmp (places_among fields a) (places_among fields b)) (slice_cmp cell_cmp a b) e))
    is_key same_are_equal keys

-- ---- cells by what stands beside them

any_mapped : {X Y : Type 0} (h : X → Y) (same : Y → Y → Bool) (y : Y) (xs : List X) → list_any (λ x. same (h x) y) xs ≡ list_any (λ z. same z y) (map h xs)
any_mapped h same y [] = refl
any_mapped h same y (x ∷ xs) = ap (λ b. same (h x) y || b) (any_mapped h same y xs)

-- the first of elements that are alike by a part, seen by that part
firsts_mapped : {X Y : Type 0} (h : X → Y) (same : Y → Y → Bool) (before xs : List X)
    → map h (firsts_behind (λ a b. same (h a) (h b)) before xs) ≡ firsts_behind same (map h before) (map h xs)
firsts_mapped h same before [] = refl
firsts_mapped h same before (x ∷ xs) =
    pick (list_any (λ y. same (h y) (h x)) before) _ (any_mapped h same (h x) before)
    (firsts_mapped h same (before ++ x ∷ []) xs ∙ ap (λ l. firsts_behind same l (map h xs)) (map-append h before (x ∷ [])))
  where
    pick : (a b : Bool) → a ≡ b
        → map h (firsts_behind (λ a b. same (h a) (h b)) (before ++ x ∷ []) xs) ≡ firsts_behind same (map h before ++ h x ∷ []) (map h xs)
        → map h (cond a (firsts_behind (λ a b. same (h a) (h b)) (before ++ x ∷ []) xs) (x ∷ firsts_behind (λ a b. same (h a) (h b)) (before ++ x ∷ []) xs))
        ≡ cond b (firsts_behind same (map h before ++ h x ∷ []) (map h xs)) (h x ∷ firsts_behind same (map h before ++ h x ∷ []) (map h xs))
    pick true b e rest = subst (λ c. map h (firsts_behind (λ a b. same (h a) (h b)) (before ++ x ∷ []) xs)
        ≡ cond c (firsts_behind same (map h before ++ h x ∷ []) (map h xs)) (h x ∷ firsts_behind same (map h before ++ h x ∷ []) (map h xs))) e rest
    pick false b e rest = subst (λ c. h x ∷ map h (firsts_behind (λ a b. same (h a) (h b)) (before ++ x ∷ []) xs) ≡ cond c (firsts_behind same
        (map h before ++ h x ∷ []) (map h xs)) (h x ∷ firsts_behind same (map h before ++ h x ∷ []) (map h xs))) e (ap (λ l. h x ∷ l) rest)

module _ (cell : Cell) where
  abbrev has : Cell × Cell → Bool
  has pair = same_cells pair.0 cell

  any_pushed : (before : List (Cell × Cell)) (x : Cell × Cell) → list_any has before ≡ false → has x ≡ false → list_any has (before ++ x ∷ []) ≡ false
  any_pushed [] x none other = ap (λ b. b || false) other
  any_pushed (b ∷ bs) x none other = more (has b) none (any_pushed bs x)
    where
      more : (c : Bool) → (c || list_any has bs) ≡ false → (list_any has bs ≡ false → has x ≡ false → list_any has (bs ++ x ∷ []) ≡ false)
          → (c || list_any has (bs ++ x ∷ [])) ≡ false
      more true h f = absurd (cc)
      more false h f = f h other

  -- what has a cell first is the first of its kind
  found_among : (before xs : List (Cell × Cell)) → list_any has before ≡ false → find has (firsts_behind alike_pairs before xs) ≡ find has xs
  found_among before [] none = refl
  found_among before (x ∷ xs) none =
      by_cases (has x)
      (λ e. let unseen : list_any (λ y. alike_pairs y x) before ≡ false =
      ap (λ c. list_any (λ (y : Cell × Cell). same_cells y.0 c) before) ((same_cells_tell x.0 cell).0 e) ∙ none in
      ap (λ b. find has (cond b later (x ∷ later))) unseen ∙ ap (λ b. cond b (Some x) (find has later)) e ∙ sym (ap (λ b. cond b (Some x) (find has xs)) e))
      (λ e. either (list_any (λ y. alike_pairs y x) before) e ∙ found_among (before ++ x ∷ []) xs (any_pushed before x none e)
      ∙ sym (ap (λ b. cond b (Some x) (find has xs)) e))
    where
      later : List (Cell × Cell)
      later = firsts_behind alike_pairs (before ++ x ∷ []) xs

      either : (b : Bool) → has x ≡ false → find has (cond b later (x ∷ later)) ≡ find has later
      either true e = refl
      either false e = ap (λ c. cond c (Some x) (find has later)) e

pub by_beside_exact : (descending : Bool) (beside : Cell → Cell) (a b : Cell) → by_beside descending beside a b ≡ Equal → a ≡ b
by_beside_exact true beside a b e = only_equal_cells_tie a b (last_equal (cell_cmp (beside b) (beside a)) (cell_cmp a b) e)
by_beside_exact false beside a b e = only_equal_cells_tie a b (last_equal (cell_cmp (beside a) (beside b)) (cell_cmp a b) e)

-- cells by what stands beside them are known from the first pair with each
pub first_pairs_serve : (descending : Bool) (pairs : List (Cell × Cell)) → by_firsts descending (firsts alike_pairs pairs) ≡ by_firsts descending pairs
first_pairs_serve descending pairs =
    let beside : first_beside (firsts alike_pairs pairs) ≡ first_beside pairs =
    λ i c. unwrap_or (option_map (λ (pair : Cell × Cell). pair.1) (found_among c [] pairs refl i)) Null in
    ap₂ (λ f cells. ascending (by_beside descending f) cells) beside (firsts_mapped (λ (pair : Cell × Cell). pair.0) same_cells [] pairs)
    ∙ ascending_firsts (by_beside descending (first_beside pairs))
    (by_beside_total descending (first_beside pairs)) (by_beside_exact descending (first_beside pairs))
    same_cells (λ a b e. (same_cells_tell a b).0 e) (map (λ (pair : Cell × Cell). pair.0) pairs)
