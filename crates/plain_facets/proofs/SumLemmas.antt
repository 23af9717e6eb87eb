-- Sums over copies, from those that have rows.
use Rattle.std.proofs.Common.{◌≡◌, ◌≢◌, ℕ, zero, suc, ◌+◌, ◌-◌, ◌<◌, Bool, true, false, cond, not, ◌||◌, List, [], ◌∷◌, ◌++◌, map, flat_map}
use Rattle.std.proofs.Common.{filter, length, replicate, Option, Some, None, unwrap_or, All, refl, sym, ap, subst, ◌∙◌, arith}
use Rattle.std.specs.Prelude.{slice_get, slice_index_or}
use Rattle.std.specs.List.{list_any, sum, enumerate_from}
use Rattle.std.specs.Option.{option_map}
use Rattle.std.specs.Ordering.{is_eq, ordering_then}
use Rattle.std.specs.declared.cmp.Ordering.{Ordering}
use Rattle.std.specs.declared.cmp.Ordering.TheVariants.{Equal}
use Rattle.std.specs.Cmp.{tied_itself}
use Rattle.std.specs.Cmp.Lexicographic.{slice_cmp}
use Rattle.std.proofs.lemmas.Bool.{cond_both}
use Rattle.std.proofs.lemmas.List.{append-nil}
use Rattle.std.proofs.lemmas.List.Elements.{All-nil, All-cons, All-head, All-tail, All-map}
use Rattle.std.proofs.lemmas.List.Folds.{list_any-append}
use Rattle.std.proofs.lemmas.List.Kept.{AllPairs-filter}
use Rattle.std.proofs.lemmas.List.Sums.{sum_by-cons}
use Rattle.fixed_num.specs.Ranges.{◌>>=◌, all_found}
use Rattle.cell_value.specs.declared.cell.Cell.{Cell}
use Rattle.cell_value.specs.Cell.{cell_cmp, same_cells}
use Rattle.cell_value.specs.Datum.{Datum}
use Rattle.cell_value.specs.inner.CellOrder.{cell_cmp_total, same_cells_tell}
use Rattle.tick_kit.specs.Domains.{placed_in, ascending}
use Rattle.plain_rows.specs.declared.transforms.SortBy.{SortBy}
use Rattle.plain_groups.specs.Groups.{firsts_behind}
use Rattle.plain_groups.proofs.PlaceLemmas.{by_cases, same_are_equal, same_itself}
use Rattle.plain_facets.specs.declared.copies.DividedBy.{DividedBy}
use Rattle.plain_facets.specs.Facets.{key_of, is_key, part_of, AreDifferent, cells_in, pairs_in, by_beside, first_beside, cells_of_field}
use Rattle.plain_facets.specs.Facets.{choices, cells_of_fields, cells_of_rows, distinct_keys}
use Rattle.plain_facets.specs.Laws.{total, CopiesAreSummed}
use Rattle.plain_facets.proofs.OrderLemmas.{by_ordering, map_after}
use Rattle.plain_facets.proofs.RepeatLemmas.{by_beside_exact}
use Rattle.plain_facets.proofs.DifferentLemmas.{Differ, head_apart, tail_pairs, with_rows_are_different, choices_are_different}

-- ---- sums of numbers of which some may lack

abbrev plus : Option ℕ → Option ℕ → Option ℕ
plus a b = a >>= λ m. b >>= λ n. Some (m + n)

pub total-cons : (a : Option ℕ) (others : List (Option ℕ)) → total (a ∷ others) ≡ plus a (total others)
total-cons None others = refl
total-cons (Some m) others = by_others (all_found others)
  where
    by_others : (found : Option (List ℕ)) → option_map sum (found >>= λ ns. Some (m ∷ ns)) ≡ (option_map sum found >>= λ n. Some (m + n))
    by_others None = refl
    by_others (Some ns) = ap Some (sum_by-cons (λ k. k) m ns)

swapped : (a b c : Option ℕ) → plus a (plus b c) ≡ plus b (plus a c)
swapped None None c = refl
swapped None (Some n) c = refl
swapped (Some m) None c = refl
swapped (Some m) (Some n) None = refl
swapped (Some m) (Some n) (Some k) = ap Some (omega arith)

-- ---- elements that stand among others

either_true : (b : Bool) → (b || true) ≡ true
either_true true = refl
either_true false = refl

module _ {X : Type 0} (same : X → X → Bool) (itself : (x : X) → same x x ≡ true) (equal : (x y : X) → same x y ≡ true → x ≡ y) where
  abbrev pub among : X → List X → Bool
  among x xs = list_any (λ y. same y x) xs

  abbrev others : X → List X → List X
  others x xs = filter (λ y. not (same y x)) xs

  turned : (x y : X) → same x y ≡ false → same y x ≡ false
  turned x y e = by_cases (same y x) (λ h. absurd (two (same x y) (ap (same x) (equal y x h) ∙ itself x) e)) (λ h. h)
    where
      two : (b : Bool) → b ≡ true → b ≡ false → ⊥
      two b h k = cc

  apart : (x y : X) → x ≢ y → same x y ≡ false
  apart x y other = by_cases (same x y) (λ e. absurd (other (equal x y e))) (λ e. e)

  absent : (x : X) (ys : List X) → All (λ y. x ≢ y) ys → others x ys ≡ ys
  absent x [] h = refl
  absent x (y ∷ ys) h =
      ap (λ b. cond (not b) (y ∷ others x ys) (others x ys)) (turned x y (apart x y (All-head (λ z. x ≢ z) y ys h)))
      ∙ ap (λ l. y ∷ l) (absent x ys (All-tail (λ z. x ≢ z) y ys h))

  -- what is the first is none of the others
  left_first : (x y : X) (ys : List X) → same y x ≡ true → Differ (y ∷ ys) → others x (y ∷ ys) ≡ ys
  left_first x y ys e differ =
      ap (λ b. cond (not b) (y ∷ others x ys) (others x ys)) e
      ∙ absent x ys (subst (λ z. All (λ w. z ≢ w) ys) (equal y x e) (head_apart (λ a b. a ≢ b) y ys differ))

  left_later : (x y : X) (ys : List X) → same y x ≡ false → others x (y ∷ ys) ≡ y ∷ others x ys
  left_later x y ys e = ap (λ b. cond (not b) (y ∷ others x ys) (others x ys)) e

  behind_first : (x y : X) (ys : List X) → same y x ≡ false → among x (y ∷ ys) ≡ true → among x ys ≡ true
  behind_first x y ys e there = sym (ap (λ b. b || among x ys) e) ∙ there

  one_less : (x : X) (ys : List X) → Differ ys → among x ys ≡ true → suc (length (others x ys)) ≡ length ys
  one_less x [] differ there = absurd (cc)
  one_less x (y ∷ ys) differ there =
      by_cases (same y x)
      (λ e. ap (λ l. suc (length l)) (left_first x y ys e differ))
      (λ e. ap (λ l. suc (length l)) (left_later x y ys e) ∙ ap suc (one_less x ys (tail_pairs (λ a b. a ≢ b) y ys differ) (behind_first x y ys e there)))

  still_among : (x z : X) (ys : List X) → x ≢ z → among z ys ≡ true → among z (others x ys) ≡ true
  still_among x z [] other there = absurd (cc)
  still_among x z (y ∷ ys) other there =
      by_cases (same y x)
      (λ e. ap (λ b. among z (cond (not b) (y ∷ others x ys) (others x ys))) e
      ∙ still_among x z ys other (behind_first z y ys (apart y z (λ is. other (sym (equal y x e) ∙ is))) there))
      (λ e. ap (among z) (left_later x y ys e)
      ∙ by_cases (same y z)
      (λ h. ap (λ b. b || among z (others x ys)) h)
      (λ h. ap (λ b. b || among z (others x ys)) h ∙ still_among x z ys other (behind_first z y ys h there)))

  all_still_among : (x : X) (zs ys : List X) → All (λ z. x ≢ z) zs → All (λ z. among z ys ≡ true) zs → All (λ z. among z (others x ys) ≡ true) zs
  all_still_among x [] ys apart there = All-nil (λ z. among z (others x ys) ≡ true)
  all_still_among x (z ∷ zs) ys apart there =
      All-cons (λ z. among z (others x ys) ≡ true) z zs
      (still_among x z ys (All-head (λ z. x ≢ z) z zs apart) (All-head (λ z. among z ys ≡ true) z zs there))
      (all_still_among x zs ys (All-tail (λ z. x ≢ z) z zs apart) (All-tail (λ z. among z ys ≡ true) z zs there))

  -- ---- sums over elements of which all but some have the same number

  module _ (number : X → Option ℕ) (bare : Option ℕ) where
    abbrev IsBare : List X → X → Type 0
    IsBare xs y = among y xs ≡ false → number y ≡ bare

    summed_first : (x : X) (ys : List X) → Differ ys → among x ys ≡ true → total (map number ys) ≡ plus (number x) (total (map number (others x ys)))
    summed_first x [] differ there = absurd (cc)
    summed_first x (y ∷ ys) differ there =
        by_cases (same y x)
        (λ e. total-cons (number y) (map number ys)
        ∙ ap (λ z. plus (number z) (total (map number ys))) (equal y x e)
        ∙ ap (λ l. plus (number x) (total (map number l))) (sym (left_first x y ys e differ)))
        (λ e. total-cons (number y) (map number ys)
        ∙ ap (plus (number y)) (summed_first x ys (tail_pairs (λ a b. a ≢ b) y ys differ) (behind_first x y ys e there))
        ∙ swapped (number y) (number x) (total (map number (others x ys)))
        ∙ ap (plus (number x)) (sym (total-cons (number y) (map number (others x ys))))
        ∙ ap (λ l. plus (number x) (total (map number l))) (sym (left_later x y ys e)))

    all_bare : (ys : List X) → All (IsBare []) ys → map number ys ≡ replicate (length ys) bare
    all_bare [] h = refl
    all_bare (y ∷ ys) h =
        ap (λ n. n ∷ map number ys) (All-head (IsBare []) y ys h refl) ∙ ap (λ l. bare ∷ l) (all_bare ys (All-tail (IsBare []) y ys h))

    still_bare : (x : X) (xs ys : List X) → All (IsBare (x ∷ xs)) ys → All (IsBare xs) (others x ys)
    still_bare x xs [] h = All-nil (IsBare xs)
    still_bare x xs (y ∷ ys) h =
        let rest : All (IsBare xs) (others x ys) = still_bare x xs ys (All-tail (IsBare (x ∷ xs)) y ys h) in
        by_cases (same y x)
        (λ e. subst (All (IsBare xs)) (sym (ap (λ b. cond (not b) (y ∷ others x ys) (others x ys)) e)) rest)
        (λ e. subst (All (IsBare xs)) (sym (left_later x y ys e))
        (All-cons (IsBare xs) y (others x ys)
        (λ none. All-head (IsBare (x ∷ xs)) y ys h (ap (λ b. b || among y xs) (turned y x e) ∙ none)) rest))

    pub summed : (xs ys : List X) → Differ xs → Differ ys → All (λ x. among x ys ≡ true) xs → All (IsBare xs) ys
        → total (map number ys) ≡ total (map number xs ++ replicate (length ys - length xs) bare)
    summed [] ys apart differ there rest =
        let all_left : length ys ≡ length ys - 0 = omega arith in
        ap total (all_bare ys rest) ∙ ap (λ n. total (replicate n bare)) all_left
    summed (x ∷ xs) ys apart differ there rest =
        let here : among x ys ≡ true = All-head (λ z. among z ys ≡ true) x xs there in
        let left : length (others x ys) - length xs ≡ length ys - suc (length xs) =
        let less = one_less x ys differ here in omega (arith, less) in
        summed_first x ys differ here
        ∙ ap (plus (number x))
        (summed xs (others x ys) (tail_pairs (λ a b. a ≢ b) x xs apart) (AllPairs-filter (λ a b. a ≢ b) (λ y. not (same y x)) ys differ)
        (all_still_among x xs ys (head_apart (λ a b. a ≢ b) x xs apart) (All-tail (λ z. among z ys ≡ true) x xs there)) (still_bare x xs ys rest))
        ∙ sym (total-cons (number x) (map number xs ++ replicate (length (others x ys) - length xs) bare))
        ∙ ap (λ n. total (number x ∷ (map number xs ++ replicate n bare))) left

  -- ---- the first of elements that are alike, and elements in order, are those elements

  -- an element that is like one of others passes a test where that one does
  alike_passes : (test : X → Bool) (x : X) (others : List X) → among x others ≡ true → test x ≡ true → list_any test others ≡ true
  alike_passes test x [] e h = absurd (cc)
  alike_passes test x (b ∷ bs) e h =
      by_cases (same b x)
      (λ k. ap (λ c. c || list_any test bs) (ap test (equal b x k) ∙ h))
      (λ k. ap (λ c. test b || c) (alike_passes test x bs (behind_first x b bs k e) h) ∙ either_true (test b))

  passed : (a t l r : Bool) → (t ≡ true → a ≡ true) → ((a || (t || false)) || l) ≡ ((a || (t || false)) || r) → (a || l) ≡ (a || (t || r))
  passed true t l r h e = refl
  passed false true l r h e = absurd (two false (h refl) refl)
    where
      two : (b : Bool) → b ≡ true → b ≡ false → ⊥
      two b h k = cc
  passed false false l r h e = e

  taken : (a t l r : Bool) → ((a || (t || false)) || l) ≡ ((a || (t || false)) || r) → (a || (t || l)) ≡ (a || (t || r))
  taken true t l r e = refl
  taken false true l r e = refl
  taken false false l r e = e

  any_firsts : (test : X → Bool) (before xs : List X)
      → (list_any test before || list_any test (firsts_behind same before xs)) ≡ (list_any test before || list_any test xs)
  any_firsts test before [] = refl
  any_firsts test before (x ∷ xs) =
      let later : List X = firsts_behind same (before ++ x ∷ []) xs in
      let here : ((list_any test before || (test x || false)) || list_any test later) ≡ ((list_any test before || (test x || false)) || list_any test xs) =
      ap (λ b. b || list_any test later) (sym (list_any-append test before (x ∷ []))) ∙ any_firsts test (before ++ x ∷ []) xs
      ∙ ap (λ b. b || list_any test xs) (list_any-append test before (x ∷ [])) in
      by_cases (among x before)
      (λ e. ap (λ b. list_any test before || list_any test (cond b later (x ∷ later))) e
      ∙ passed (list_any test before) (test x) (list_any test later) (list_any test xs) (alike_passes test x before e) here)
      (λ e. ap (λ b. list_any test before || list_any test (cond b later (x ∷ later))) e
      ∙ taken (list_any test before) (test x) (list_any test later) (list_any test xs) here)

  all_firsts : (P : X → Type 0) (before xs : List X) → All P xs → All P (firsts_behind same before xs)
  all_firsts P before [] h = All-nil P
  all_firsts P before (x ∷ xs) h =
      let rest : All P (firsts_behind same (before ++ x ∷ []) xs) = all_firsts P (before ++ x ∷ []) xs (All-tail P x xs h) in
      cond_both (list_any (λ y. same y x) before) (firsts_behind same (before ++ x ∷ []) xs) (x ∷ firsts_behind same (before ++ x ∷ []) xs) (All P)
      (λ e. rest) (λ e. All-cons P x (firsts_behind same (before ++ x ∷ []) xs) (All-head P x xs h) rest)

module _ {X : Type 0} (order : X → X → Ordering) (exact : (x y : X) → order x y ≡ Equal → x ≡ y) (test : X → Bool) where
  once : (a b : Bool) → (a || b) ≡ (a || (a || b))
  once true b = refl
  once false b = refl

  crossed_over : (a b c : Bool) → (a || (b || c)) ≡ (b || (a || c))
  crossed_over true true c = refl
  crossed_over true false c = refl
  crossed_over false b c = refl

  any_placed : (x : X) (ys : List X) → list_any test (placed_in order x ys) ≡ (test x || list_any test ys)
  any_placed x [] = refl
  any_placed x (y ∷ ys) =
      by_ordering (order x y)
      (λ e. rw e refl)
      (λ e. rw e (once (test y) (list_any test ys) ∙ ap (λ z. test z || (test y || list_any test ys)) (sym (exact x y e))))
      (λ e. rw e (ap (λ b. test y || b) (any_placed x ys) ∙ crossed_over (test y) (test x) (list_any test ys)))

  any_ascending : (xs : List X) → list_any test (ascending order xs) ≡ list_any test xs
  any_ascending [] = refl
  any_ascending (x ∷ xs) = any_placed x (ascending order xs) ∙ ap (λ b. test x || b) (any_ascending xs)

-- ---- the cells of a row stand among those of its fields

same_cell : (c : Cell) → same_cells c c ≡ true
same_cell c = (same_cells_tell c c).1 refl

equal_cells : (a b : Cell) → same_cells a b ≡ true → a ≡ b
equal_cells a b e = (same_cells_tell a b).0 e

abbrev is_cell : Cell → List Cell → Bool
is_cell c cells = list_any (λ d. same_cells d c) cells

abbrev is_choice : List Cell → List (List Cell) → Bool
is_choice key keys = list_any (λ other. is_key other key) keys

cell_there : (field : List ℕ) (rows : List Datum) (k : ℕ) (d : Datum) → k < length rows
    → is_cell ((slice_index_or rows k d).cell field) (cells_in field rows) ≡ true
cell_there field [] k d within = absurd (omega (arith, within))
cell_there field (row ∷ rows) zero d within = ap (λ b. b || is_cell (row.cell field) (cells_in field rows)) (same_cell (row.cell field))
cell_there field (row ∷ rows) (suc k) d within =
    ap (λ b. same_cells (row.cell field) ((slice_index_or rows k d).cell field) || b) (cell_there field rows k d (omega (arith, within)))
    ∙ either_true (same_cells (row.cell field) ((slice_index_or rows k d).cell field))

-- the cells of a field are those that rows have in it
field_has : (rows : List Datum) (s : Option SortBy) (field : List ℕ) (c : Cell) → is_cell c (cells_of_field rows s field) ≡ is_cell c (cells_in field rows)
field_has rows None field c = any_firsts same_cells same_cell equal_cells (λ d. same_cells d c) [] (cells_in field rows)
field_has rows (Some s) field c =
    let pairs = pairs_in field s.field rows in
    any_ascending (by_beside s.descending (first_beside pairs)) (by_beside_exact s.descending (first_beside pairs)) (λ d. same_cells d c)
    (map (λ (pair : Cell × Cell). pair.0) pairs)
    ∙ ap (is_cell c) (map_after (λ (row : Datum). (row.cell field, row.cell s.field)) (λ (pair : Cell × Cell). pair.0) rows)

-- a cell before a choice is a choice with the list of the cell
module _ (c : Cell) (key : List Cell) (rests : List (List Cell)) (there : is_choice key rests ≡ true) where
  behind_cell : (keys : List (List Cell)) → is_choice (c ∷ key) (map (λ rest. c ∷ rest) keys) ≡ is_choice key keys
  behind_cell [] = refl
  behind_cell (k ∷ ks) =
      ap (λ r. is_eq (ordering_then r (slice_cmp cell_cmp k key)) || is_choice (c ∷ key) (map (λ rest. c ∷ rest) ks)) (tied_itself cell_cmp_total c)
      ∙ ap (λ b. is_key k key || b) (behind_cell ks)

  crossed_there : (cells : List Cell) → is_cell c cells ≡ true → is_choice (c ∷ key) (flat_map (λ cell. map (λ rest. cell ∷ rest) rests) cells) ≡ true
  crossed_there [] e = absurd (cc)
  crossed_there (d ∷ ds) e =
      list_any-append (λ other. is_key other (c ∷ key)) (map (λ rest. d ∷ rest) rests) (flat_map (λ cell. map (λ rest. cell ∷ rest) rests) ds)
      ∙ by_cases (same_cells d c)
      (λ h. ap (λ b. b || is_choice (c ∷ key) (flat_map (λ cell. map (λ rest. cell ∷ rest) rests) ds))
      (ap (λ z. is_choice (c ∷ key) (map (λ rest. z ∷ rest) rests)) (equal_cells d c h) ∙ behind_cell rests ∙ there))
      (λ h. ap (λ b. is_choice (c ∷ key) (map (λ rest. d ∷ rest) rests) || b)
      (crossed_there ds (sym (ap (λ b. b || is_cell c ds) h) ∙ e))
      ∙ either_true (is_choice (c ∷ key) (map (λ rest. d ∷ rest) rests)))

module _ (rows : List Datum) (sort : List SortBy) (k : ℕ) (d : Datum) (within : k < length rows) where
  row : Datum
  row = slice_index_or rows k d

  chosen : (i : ℕ) (fields : List (List ℕ))
      → is_choice (key_of fields (slice_index_or rows k d))
      (choices (map (λ (field : ℕ × List ℕ). cells_of_field rows (slice_get sort field.0) field.1) (enumerate_from i fields))) ≡ true
  chosen i [] = refl
  chosen i (field ∷ fields) =
      crossed_there ((slice_index_or rows k d).cell field) (key_of fields (slice_index_or rows k d))
      (choices (map (λ (field : ℕ × List ℕ). cells_of_field rows (slice_get sort field.0) field.1) (enumerate_from (i + 1) fields)))
      (chosen (i + 1) fields) (cells_of_field rows (slice_get sort i) field)
      (field_has rows (slice_get sort i) field ((slice_index_or rows k d).cell field) ∙ cell_there field rows k d within)

-- ---- the law

-- a key that no row has has no part
no_part : (fields : List (List ℕ)) (key : List Cell) (rows : List Datum) → is_choice key (map (key_of fields) rows) ≡ false → part_of fields key rows ≡ []
no_part fields key [] e = refl
no_part fields key (row ∷ rows) e =
    by_cases (is_key (key_of fields row) key)
    (λ h. absurd (two (is_choice key (map (key_of fields) rows)) (sym (ap (λ b. b || is_choice key (map (key_of fields) rows)) h) ∙ e)))
    (λ h. ap (λ b. cond b (row ∷ part_of fields key rows) (part_of fields key rows)) h
    ∙ no_part fields key rows (sym (ap (λ b. b || is_choice key (map (key_of fields) rows)) h) ∙ e))
  where
    two : (b : Bool) → (true || b) ≡ false → ⊥
    two b h = cc

module _ (d : DividedBy) (rows : List Datum) (number : List Cell → Option ℕ) (bare : Option ℕ)
    (each : (key : List Cell) → part_of d.fields key rows ≡ [] → number key ≡ bare) where
  abbrev keys : List (List Cell)
  keys = map (key_of d.fields) rows

  all_chosen : All (λ key. is_choice key (choices (cells_of_fields d rows)) ≡ true) (distinct_keys (map (key_of d.fields) rows))
  all_chosen =
      all_firsts is_key same_itself same_are_equal (λ key. is_choice key (choices (cells_of_fields d rows)) ≡ true) [] (map (key_of d.fields) rows)
      (All-map (λ key. is_choice key (choices (cells_of_fields d rows)) ≡ true) (key_of d.fields) rows
      (λ k e within. chosen rows (unwrap_or d.sort []) k e within 0 d.fields))

  -- what isn't among the keys of rows has no rows
  others_bare : (key : List Cell) → is_choice key (distinct_keys (map (key_of d.fields) rows)) ≡ false → number key ≡ bare
  others_bare key e =
      each key (no_part d.fields key rows (sym (any_firsts is_key same_itself same_are_equal (λ other. is_key other key) [] (map (key_of d.fields) rows)) ∙ e))

  in_either_way : (b : Bool) → AreDifferent (cond b (distinct_keys (map (key_of d.fields) rows)) (cells_of_rows d rows))
      → total (map number (cond b (choices (cells_of_fields d rows)) (cells_of_rows d rows)))
      ≡ total (map number (cond b (distinct_keys (map (key_of d.fields) rows)) (cells_of_rows d rows))
      ++ replicate (length (cond b (choices (cells_of_fields d rows)) (cells_of_rows d rows))
      - length (cond b (distinct_keys (map (key_of d.fields) rows)) (cells_of_rows d rows))) bare)
  in_either_way true differ =
      summed is_key same_itself same_are_equal number bare (distinct_keys (map (key_of d.fields) rows)) (choices (cells_of_fields d rows)) differ
      (choices_are_different d rows) all_chosen (λ k e within. others_bare (slice_index_or (choices (cells_of_fields d rows)) k e))
  in_either_way false differ =
      let none : 0 ≡ length (cells_of_rows d rows) - length (cells_of_rows d rows) = omega arith in
      ap total (sym (append-nil (map number (cells_of_rows d rows)))) ∙ ap (λ n. total (map number (cells_of_rows d rows) ++ replicate n bare)) none

pub copies_are_summed : CopiesAreSummed
copies_are_summed d rows number bare each = in_either_way d rows number bare each d.crosses (with_rows_are_different d rows)
