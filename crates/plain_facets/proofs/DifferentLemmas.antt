-- Why no two copies have the same cells.
use Rattle.std.proofs.Common.{◌≡◌, ◌≢◌, ℕ, zero, suc, ◌+◌, Bool, true, false, cond, ◌||◌, List, [], ◌∷◌, ◌++◌, map, flat_map, length}
use Rattle.std.proofs.Common.{get_or, Option, Some, None, is_some, unwrap_or, All, AllPairs, refl, sym, ap, subst, ◌∙◌, arith}
use Rattle.std.specs.Prelude.{slice_get}
use Rattle.std.specs.List.{list_any, position_from, enumerate_from}
use Rattle.std.specs.Ordering.{ordering_reverse}
use Rattle.std.specs.declared.cmp.Ordering.{Ordering}
use Rattle.std.specs.declared.cmp.Ordering.TheVariants.{Less, Equal}
use Rattle.std.specs.Cmp.{IsTotalOrder, tied_itself, then_total, on_total, back_total}
use Rattle.std.specs.Cmp.Lexicographic.{nat_list_cmp_total, lists_total}
use Rattle.std.proofs.lemmas.Bool.{cond_both}
use Rattle.std.proofs.lemmas.List.Elements.{All-nil, All-cons, All-head, All-tail, All-weaker, All-append, All-map}
use Rattle.std.proofs.lemmas.List.Kept.{AllPairs-cons}
use Rattle.cell_value.specs.declared.cell.Cell.{Cell}
use Rattle.cell_value.specs.Cell.{same_cells}
use Rattle.cell_value.specs.Datum.{Datum}
use Rattle.cell_value.specs.inner.CellOrder.{cell_cmp_total, same_cells_tell}
use Rattle.tick_kit.specs.Domains.{placed_in, ascending}
use Rattle.plain_rows.specs.declared.transforms.SortBy.{SortBy}
use Rattle.plain_groups.specs.Groups.{firsts_behind, firsts}
use Rattle.plain_groups.proofs.PlaceLemmas.{by_cases, same_are_equal, same_itself}
use Rattle.plain_facets.specs.declared.copies.DividedBy.{DividedBy}
use Rattle.plain_facets.specs.Facets.{key_of, is_key, AreDifferent, cells_in, pairs_in, by_beside, first_beside, cells_of_field, by_places}
use Rattle.plain_facets.specs.Facets.{places_among, choices, cells_of_fields, cells_of_rows, cells_with_rows}
use Rattle.plain_facets.specs.Laws.{CopiesAreDifferent, EachIsAtHome}
use Rattle.plain_facets.proofs.OrderLemmas.{by_ordering}

abbrev pub Differ : {X : Type 0} → List X → Type 0
Differ xs = AllPairs (λ a b. a ≢ b) xs

-- ---- pairs of a list

module _ {X : Type 0} (R : X → X → Type 0) where
  no_pairs : AllPairs R []
  no_pairs = λ i j d less within. absurd (omega (arith, within))

  pub head_apart : (x : X) (xs : List X) → AllPairs R (x ∷ xs) → All (R x) xs
  head_apart x xs h = λ k d within. h 0 (suc k) d (omega arith) (omega (arith, within))

  pub tail_pairs : (x : X) (xs : List X) → AllPairs R (x ∷ xs) → AllPairs R xs
  tail_pairs x xs h = λ i j d less within. h (suc i) (suc j) d (omega (arith, less)) (omega (arith, within))

  pairs_append : (xs ys : List X) → AllPairs R xs → AllPairs R ys → All (λ x. All (R x) ys) xs → AllPairs R (xs ++ ys)
  pairs_append [] ys h k across = k
  pairs_append (x ∷ xs) ys h k across =
      AllPairs-cons R x (xs ++ ys)
      (All-append (R x) xs ys (head_apart x xs h) (All-head (λ z. All (R z) ys) x xs across))
      (pairs_append xs ys (tail_pairs x xs h) k (All-tail (λ z. All (R z) ys) x xs across))

-- ---- the first of the elements that are alike

module _ {X : Type 0} (same : X → X → Bool) (itself : (x : X) → same x x ≡ true) where
  abbrev seen : List X → X → Bool
  seen before x = list_any (λ z. same z x) before

  -- what is not among more elements is not among fewer
  not_seen : (before : List X) (x y : X) → seen (before ++ x ∷ []) y ≡ false → (seen before y ≡ false) × (x ≢ y)
  not_seen [] x y e = (refl, λ is. absurd (lone (same x y) (ap (same x) (sym is) ∙ itself x) e))
    where
      lone : (b : Bool) → b ≡ true → (b || false) ≡ false → ⊥
      lone true h k = cc
      lone false h k = cc
  not_seen (b ∷ bs) x y e = more (same b y) e (not_seen bs x y)
    where
      more : (b : Bool) → (b || seen (bs ++ x ∷ []) y) ≡ false → (seen (bs ++ x ∷ []) y ≡ false → (seen bs y ≡ false) × (x ≢ y))
          → ((b || seen bs y) ≡ false) × (x ≢ y)
      more true h f = absurd (cc)
      more false h f = f h

  firsts_not_seen : (before xs : List X) → All (λ y. seen before y ≡ false) (firsts_behind same before xs)
  firsts_not_seen before [] = All-nil (λ y. seen before y ≡ false)
  firsts_not_seen before (x ∷ xs) =
      let later = firsts_behind same (before ++ x ∷ []) xs in
      let fewer : All (λ y. seen before y ≡ false) later =
      All-weaker (λ y. seen (before ++ x ∷ []) y ≡ false) (λ y. seen before y ≡ false)
      (λ y e. (not_seen before x y e).0) later (firsts_not_seen (before ++ x ∷ []) xs) in
      cond_both (seen before x) later (x ∷ later) (All (λ y. seen before y ≡ false)) (λ _. fewer) (λ e. All-cons (λ y. seen before y ≡ false) x later e fewer)

  firsts_differ : (before xs : List X) → Differ (firsts_behind same before xs)
  firsts_differ before [] = no_pairs (λ a b. a ≢ b)
  firsts_differ before (x ∷ xs) =
      let later = firsts_behind same (before ++ x ∷ []) xs in
      let rest : Differ later = firsts_differ (before ++ x ∷ []) xs in
      let apart : All (λ y. x ≢ y) later =
      All-weaker (λ y. seen (before ++ x ∷ []) y ≡ false) (λ y. x ≢ y) (λ y e. (not_seen before x y e).1) later (firsts_not_seen (before ++ x ∷ []) xs) in
      cond_both (seen before x) later (x ∷ later) Differ (λ _. rest) (λ _. AllPairs-cons (λ a b. a ≢ b) x later apart rest)

-- ---- elements in order

module _ {X : Type 0} (order : X → X → Ordering) (total : IsTotalOrder order) where
  abbrev Below : X → X → Type 0
  Below a b = order a b ≡ Less

  all_placed : (P : X → Type 0) (x : X) (ys : List X) → P x → All P ys → All P (placed_in order x ys)
  all_placed P x [] p h = All-cons P x [] p h
  all_placed P x (y ∷ ys) p h =
      by_ordering (order x y)
      (λ e. rw e (All-cons P x (y ∷ ys) p h))
      (λ e. rw e h)
      (λ e. rw e (All-cons P y (placed_in order x ys) (All-head P y ys h) (all_placed P x ys p (All-tail P y ys h))))

  placed_rises : (x : X) (ys : List X) → AllPairs Below ys → AllPairs Below (placed_in order x ys)
  placed_rises x [] h = AllPairs-cons Below x [] (All-nil (Below x)) h
  placed_rises x (y ∷ ys) h =
      let above : All (Below y) ys = head_apart Below y ys h in
      let rest : AllPairs Below (placed_in order x ys) = placed_rises x ys (tail_pairs Below y ys h) in
      by_ordering (order x y)
      (λ e. rw e (AllPairs-cons Below x (y ∷ ys) (All-cons (Below x) y ys e (All-weaker (Below y) (Below x) (λ z. total.trans x y z e) ys above)) h))
      (λ e. rw e h)
      (λ e. rw e (AllPairs-cons Below y (placed_in order x ys)
      (all_placed (Below y) x ys (total.antisymm y x ∙ ap ordering_reverse e) above) rest))

  rises : (xs : List X) → AllPairs Below (ascending order xs)
  rises [] = no_pairs Below
  rises (x ∷ xs) = placed_rises x (ascending order xs) (rises xs)

  not_below : (x y : X) → order x y ≡ Less → x ≢ y
  not_below x y less is = absurd (two_answers (order x x) (ap (order x) is ∙ less) (tied_itself total x))
    where
      two_answers : (r : Ordering) → r ≡ Less → r ≡ Equal → ⊥
      two_answers r h k = cc

  ascending_differ : (xs : List X) → Differ (ascending order xs)
  ascending_differ xs = λ i j d less within. not_below _ _ (rises xs i j d less within)

-- ---- the cells of a field

pub by_beside_total : (descending : Bool) (beside : Cell → Cell) → IsTotalOrder (by_beside descending beside)
by_beside_total true beside = then_total (back_total (on_total beside cell_cmp_total)) cell_cmp_total
by_beside_total false beside = then_total (on_total beside cell_cmp_total) cell_cmp_total

field_differs : (rows : List Datum) (s : Option SortBy) (field : List ℕ) → Differ (cells_of_field rows s field)
field_differs rows None field = firsts_differ same_cells (λ x. (same_cells_tell x x).1 refl) [] (cells_in field rows)
field_differs rows (Some s) field =
    let pairs = pairs_in field s.field rows in
    ascending_differ (by_beside s.descending (first_beside pairs)) (by_beside_total s.descending (first_beside pairs))
    (map (λ (pair : Cell × Cell). pair.0) pairs)

-- ---- the cells of copies

lone_differs : (key : List Cell) → Differ (key ∷ [])
lone_differs key = AllPairs-cons (λ a b. a ≢ b) key [] (All-nil (λ b. key ≢ b)) (no_pairs (λ a b. a ≢ b))

module _ (rests : List (List Cell)) where
  abbrev behind : Cell → List (List Cell)
  behind c = map (λ rest. c ∷ rest) rests

  -- keys that begin with a cell differ where what follows it does
  behind_differ : (c : Cell) (keys : List (List Cell)) → Differ keys → Differ (map (λ rest. c ∷ rest) keys)
  behind_differ c [] h = no_pairs (λ a b. a ≢ b)
  behind_differ c (key ∷ keys) h =
      AllPairs-cons (λ a b. a ≢ b) (c ∷ key) (map (λ rest. c ∷ rest) keys)
      (All-map (λ b. c ∷ key ≢ b) (λ rest. c ∷ rest) keys
      (All-weaker (λ b. key ≢ b) (λ b. c ∷ key ≢ c ∷ b) (λ b other e. other (cc)) keys (head_apart (λ a b. a ≢ b) key keys h)))
      (behind_differ c keys (tail_pairs (λ a b. a ≢ b) key keys h))

  -- and from those that begin with others
  apart_from : (c : Cell) (rest : List Cell) (cells : List Cell) → All (λ d. c ≢ d) cells → All (λ key. c ∷ rest ≢ key) (flat_map behind cells)
  apart_from c rest [] h = All-nil (λ key. c ∷ rest ≢ key)
  apart_from c rest (d ∷ ds) h =
      All-append (λ key. c ∷ rest ≢ key) (behind d) (flat_map behind ds)
      (All-map (λ key. c ∷ rest ≢ key) (λ r. d ∷ r) rests (λ k r within e. All-head (λ x. c ≢ x) d ds h (cc)))
      (apart_from c rest ds (All-tail (λ x. c ≢ x) d ds h))

  crossed_differ : Differ rests → (cells : List Cell) → Differ cells → Differ (flat_map behind cells)
  crossed_differ others [] h = no_pairs (λ a b. a ≢ b)
  crossed_differ others (c ∷ cs) h =
      pairs_append (λ a b. a ≢ b) (behind c) (flat_map behind cs) (behind_differ c rests others)
      (crossed_differ others cs (tail_pairs (λ a b. a ≢ b) c cs h))
      (All-map (λ x. All (λ y. x ≢ y) (flat_map behind cs)) (λ rest. c ∷ rest) rests
      (λ k rest within. apart_from c _ cs (head_apart (λ a b. a ≢ b) c cs h)))

choices_differ : (lists : List (List Cell)) → All Differ lists → Differ (choices lists)
choices_differ [] h = lone_differs []
choices_differ (cells ∷ others) h =
    crossed_differ (choices others) (choices_differ others (All-tail Differ cells others h)) cells (All-head Differ cells others h)

fields_differ : (d : DividedBy) (rows : List Datum) → All Differ (cells_of_fields d rows)
fields_differ d rows =
    All-map Differ (λ (field : ℕ × List ℕ). cells_of_field rows (slice_get (unwrap_or d.sort []) field.0) field.1) (enumerate_from 0 d.fields)
    (λ k field within. field_differs rows (slice_get (unwrap_or d.sort []) (get_or (enumerate_from 0 d.fields) k field).0)
    (get_or (enumerate_from 0 d.fields) k field).1)

pub by_places_total : (fields : List (List Cell)) → IsTotalOrder (by_places fields)
by_places_total fields = then_total (on_total (places_among fields) nat_list_cmp_total) (lists_total cell_cmp_total)

rows_differ : (d : DividedBy) (rows : List Datum) → Differ (cells_of_rows d rows)
rows_differ d rows =
    cond_both (is_some d.sort) (ascending (by_places (cells_of_fields d rows)) keys) (firsts is_key keys) Differ
    (λ _. ascending_differ (by_places (cells_of_fields d rows)) (by_places_total (cells_of_fields d rows)) keys)
    (λ _. firsts_differ is_key same_itself [] keys)
  where
    keys : List (List Cell)
    keys = map (key_of d.fields) rows

pub copies_are_different : CopiesAreDifferent
copies_are_different d rows =
    cond_both d.crosses (choices (cells_of_fields d rows)) (cells_of_rows d rows) Differ
    (λ _. choices_differ (cells_of_fields d rows) (fields_differ d rows)) (λ _. rows_differ d rows)

pub with_rows_are_different : (d : DividedBy) (rows : List Datum) → AreDifferent (cells_with_rows d rows)
with_rows_are_different d rows =
    cond_both d.crosses (firsts is_key (map (key_of d.fields) rows)) (cells_of_rows d rows) Differ
    (λ _. firsts_differ is_key same_itself [] (map (key_of d.fields) rows)) (λ _. rows_differ d rows)

pub choices_are_different : (d : DividedBy) (rows : List Datum) → AreDifferent (choices (cells_of_fields d rows))
choices_are_different d rows = choices_differ (cells_of_fields d rows) (fields_differ d rows)

-- ---- the place of each copy

some_equal : {X : Type 0} (a b : X) → Some a ≡ Some b → a ≡ b
some_equal a b e = cc

apart_there : (c key : List Cell) (keys : List (List Cell)) (k : ℕ) → All (λ b. c ≢ b) keys → slice_get keys k ≡ Some key → c ≢ key
apart_there c key [] k all there = absurd (cc)
apart_there c key (x ∷ xs) zero all there = subst (λ b. c ≢ b) (some_equal x key there) (All-head (λ b. c ≢ b) x xs all)
apart_there c key (x ∷ xs) (suc k) all there = apart_there c key xs k (All-tail (λ b. c ≢ b) x xs all) there

module _ (key : List Cell) where
  abbrev place_from : ℕ → List (List Cell) → Option ℕ
  place_from i copies = position_from (λ other. is_key other key) i copies

  first_there : (i n : ℕ) (copies : List (List Cell)) (k : ℕ) → AreDifferent copies → slice_get copies k ≡ Some key
      → unwrap_or (place_from i copies) n ≡ i + k
  first_there i n [] k h there = absurd (cc)
  first_there i n (c ∷ cs) zero h there =
      ap (λ b. unwrap_or (cond b (Some i) (place_from (i + 1) cs)) n) (ap (λ z. is_key z key) (some_equal c key there) ∙ same_itself key) ∙ omega arith
  first_there i n (c ∷ cs) (suc k) h there =
      ap (λ b. unwrap_or (cond b (Some i) (place_from (i + 1) cs)) n)
      (by_cases (is_key c key)
      (λ e. absurd (apart_there c key cs k (head_apart (λ a b. a ≢ b) c cs h) there (same_are_equal c key e))) (λ e. e))
      ∙ first_there (i + 1) n cs k (tail_pairs (λ a b. a ≢ b) c cs h) there ∙ omega arith

pub each_is_at_home : EachIsAtHome
each_is_at_home copies k key different there =
    let none : 0 + k ≡ k = omega arith in first_there key 0 (length copies) copies k different there ∙ none
