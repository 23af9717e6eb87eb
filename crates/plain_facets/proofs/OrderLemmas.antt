-- Different elements in order: how a set puts them, when two orders are one, and what stands beside cells.
use Rattle.std.proofs.Common.{◌≡◌, ℕ, ◌+◌, ◌<◌, Bool, true, false, cond, List, [], ◌∷◌, ◌++◌, map, length, take, get_or, Option, Some, None}
use Rattle.std.proofs.Common.{unwrap_or, refl, sym, ap, ◌∙◌}
use Rattle.std.specs.Prelude.{find}
use Rattle.std.specs.Option.{option_map, option_or}
use Rattle.std.specs.Ordering.{ordering_then}
use Rattle.std.specs.declared.cmp.Ordering.{Ordering}
use Rattle.std.specs.declared.cmp.Ordering.TheVariants.{Less, Equal, Greater}
use Rattle.std.specs.BTreeSet.{insert_key}
use Rattle.std.specs.BTreeMap.{BTreeMap}
use Rattle.cell_value.specs.declared.cell.Cell.{Cell}
use Rattle.cell_value.specs.declared.cell.Cell.TheVariants.{Null}
use Rattle.cell_value.specs.Cell.{cell_cmp, same_cells}
use Rattle.tick_kit.specs.Domains.{placed_in, ascending}
use Rattle.plain_groups.proofs.PlaceLemmas.{one_taken}
use Rattle.plain_facets.specs.Facets.{first_beside, by_beside, by_firsts}
use Rattle.plain_facets.specs.inner.Besides.{beside_at, first_found, beside_or_null, behind_its_own, in_order_of}

pub by_ordering : {P : Type 0} (o : Ordering) → (o ≡ Less → P) → (o ≡ Equal → P) → (o ≡ Greater → P) → P
by_ordering Less less same more = less refl
by_ordering Equal less same more = same refl
by_ordering Greater less same more = more refl

module _ {X : Type 0} (order : X → X → Ordering) where
  -- elements put one after the other, from the last to the first, into their places
  abbrev pub placed_all : List X → List X → List X
  placed_all [] found = found
  placed_all (x ∷ xs) found = placed_in order x (placed_all xs found)

  pub placed_all-push : (xs : List X) (x : X) (found : List X) → placed_all (xs ++ x ∷ []) found ≡ placed_all xs (placed_in order x found)
  placed_all-push [] x found = refl
  placed_all-push (y ∷ ys) x found = ap (placed_in order y) (placed_all-push ys x found)

  pub placed_all-ascending : (xs : List X) → placed_all xs [] ≡ ascending order xs
  placed_all-ascending [] = refl
  placed_all-ascending (x ∷ xs) = ap (placed_in order x) (placed_all-ascending xs)

  -- a set puts a key where the definition does
  pub insert_key-placed : (ks : List X) (k : X) → insert_key order ks k ≡ placed_in order k ks
  insert_key-placed [] k = refl
  insert_key-placed (x ∷ xs) k =
      by_ordering (order k x) (λ h. rw h refl) (λ h. rw h refl) (λ h. rw h (ap (λ r. x ∷ r) (insert_key-placed xs k)))

-- lists that are compared alike are put in order alike
module _ {X Y : Type 0} (c : X → X → Ordering) (d : Y → Y → Ordering) (f : X → Y) (agree : (a b : X) → d (f a) (f b) ≡ c a b) where
  placed_alike : (x : X) (xs : List X) → map f (placed_in c x xs) ≡ placed_in d (f x) (map f xs)
  placed_alike x [] = refl
  placed_alike x (y ∷ ys) =
      by_ordering (c x y)
      (λ h. rw (h, agree x y ∙ h) refl)
      (λ h. rw (h, agree x y ∙ h) refl)
      (λ h. rw (h, agree x y ∙ h) (ap (λ l. f y ∷ l) (placed_alike x ys)))

  pub ascending_alike : (xs : List X) → map f (ascending c xs) ≡ ascending d (map f xs)
  ascending_alike [] = refl
  ascending_alike (x ∷ xs) = placed_alike x (ascending c xs) ∙ ap (placed_in d (f x)) (ascending_alike xs)

pub map_after : {X Y Z : Type 0} (f : X → Y) (g : Y → Z) (xs : List X) → map g (map f xs) ≡ map (λ x. g (f x)) xs
map_after f g [] = refl
map_after f g (x ∷ xs) = ap (λ l. g (f x) ∷ l) (map_after f g xs)

pub map_itself : {X : Type 0} (xs : List X) → map (λ x. x) xs ≡ xs
map_itself [] = refl
map_itself (x ∷ xs) = ap (λ l. x ∷ l) (map_itself xs)

-- what stands beside cells, with one pair more
module _ (cell : Cell) where
  abbrev tests : Cell × Cell → Bool
  tests pair = same_cells pair.0 cell

  pub first_pushed : (pairs : List (Cell × Cell)) (pair : Cell × Cell)
      → first_found (pairs ++ pair ∷ []) cell ≡ option_or (first_found pairs cell) (cond (tests pair) (Some pair.1) None)
  first_pushed [] pair = pick (tests pair)
    where
      pick : (b : Bool) → option_map (λ (p : Cell × Cell). p.1) (cond b (Some pair) None) ≡ cond b (Some pair.1) None
      pick true = refl
      pick false = refl
  first_pushed (p ∷ ps) pair = pick (tests p) (first_pushed ps pair)
    where
      pick : (b : Bool) → first_found (ps ++ pair ∷ []) cell ≡ option_or (first_found ps cell) (cond (tests pair) (Some pair.1) None)
          → option_map (λ (p : Cell × Cell). p.1) (cond b (Some p) (find tests (ps ++ pair ∷ [])))
          ≡ option_or (option_map (λ (p : Cell × Cell). p.1) (cond b (Some p) (find tests ps))) (cond (tests pair) (Some pair.1) None)
      pick true h = refl
      pick false h = h

-- one pair more was noted
pub first_more : (pairs : List (Cell × Cell)) (i : ℕ) (pair : Cell × Cell) (q : Cell) (old new : Option Cell) → i < length pairs
    → pair ≡ get_or pairs i pair → old ≡ first_found (take i pairs) q → new ≡ option_or old (cond (same_cells pair.0 q) (Some pair.1) None)
    → new ≡ first_found (take (i + 1) pairs) q
first_more pairs i pair q old new within at before made =
    made ∙ ap (λ o. option_or o (cond (same_cells pair.0 q) (Some pair.1) None)) before ∙ sym (first_pushed q (take i pairs) pair)
    ∙ ap (λ l. first_found l q) (sym (one_taken pairs i pair within at))

module _ (besides : BTreeMap Cell Cell) (pairs : List (Cell × Cell)) where
  abbrev behind : Cell → Cell × Cell
  behind cell = (beside_or_null besides cell, cell)

  abbrev cells : List Cell
  cells = map (λ (pair : Cell × Cell). pair.0) pairs

  -- pairs in an order that compares them as their cells are compared
  seconds_of : (c : Cell → Cell → Ordering) (d : Cell × Cell → Cell × Cell → Ordering) → ((a b : Cell) → d (behind a) (behind b) ≡ c a b)
      → map (λ (pair : Cell × Cell). pair.1) (ascending d (map (behind_its_own besides) pairs)) ≡ ascending c cells
  seconds_of c d agree =
      ap (λ l. map (λ (pair : Cell × Cell). pair.1) (ascending d l)) (sym (map_after (λ (pair : Cell × Cell). pair.0) behind pairs))
      ∙ ap (map (λ (pair : Cell × Cell). pair.1)) (sym (ascending_alike c d behind agree cells))
      ∙ map_after behind (λ (pair : Cell × Cell). pair.1) (ascending c cells)
      ∙ map_itself (ascending c cells)

  pub rising_gives : (items found : List (Cell × Cell)) (out : List Cell) → items ≡ map (behind_its_own besides) pairs
      → found ≡ ascending (λ x y. ordering_then (cell_cmp x.0 y.0) (cell_cmp x.1 y.1)) items → out ≡ map (λ (pair : Cell × Cell). pair.1) found
      → out ≡ in_order_of false besides pairs
  rising_gives items found out made sorted is =
      is ∙ ap (map (λ (pair : Cell × Cell). pair.1)) (sorted ∙ ap (ascending (λ x y. ordering_then (cell_cmp x.0 y.0) (cell_cmp x.1 y.1))) made)
      ∙ seconds_of (by_beside false (beside_or_null besides)) (λ x y. ordering_then (cell_cmp x.0 y.0) (cell_cmp x.1 y.1)) (λ a b. refl)

  module _ {R : Type 0} (under : R → Cell) where
    abbrev turned : R × Cell → Cell × Cell
    turned r = (under r.0, r.1)

    abbrev falls : Cell × Cell → Cell × Cell → Ordering
    falls x y = ordering_then (cell_cmp y.0 x.0) (cell_cmp x.1 y.1)

    pub falling_gives : (items found : List (R × Cell)) (out : List Cell) → map turned items ≡ map (behind_its_own besides) pairs
        → found ≡ ascending (λ x y. ordering_then (cell_cmp (under y.0) (under x.0)) (cell_cmp x.1 y.1)) items → out ≡ map (λ (r : R × Cell). r.1) found
        → out ≡ in_order_of true besides pairs
    falling_gives items found out made sorted is =
        is ∙ sym (map_after turned (λ (pair : Cell × Cell). pair.1) found)
        ∙ ap (λ l. map (λ (pair : Cell × Cell). pair.1) (map turned l)) sorted
        ∙ ap (map (λ (pair : Cell × Cell). pair.1)) (ascending_alike _ falls turned (λ a b. refl) items ∙ ap (ascending falls) made)
        ∙ seconds_of (by_beside true (beside_or_null besides)) falls (λ a b. refl)

  -- what a map tells of each cell is what stands beside it where it stands first
  pub as_firsts : (descending : Bool) → ((q : Cell) → beside_at besides q ≡ first_found pairs q)
      → in_order_of descending besides pairs ≡ by_firsts descending pairs
  as_firsts descending tells =
      let same : beside_or_null besides ≡ first_beside pairs = λ i q. unwrap_or (tells q i) Null in
      ap (λ f. ascending (by_beside descending f) cells) same
