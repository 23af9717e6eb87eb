-- How many cells are the first of their kind.
use Rattle.std.proofs.Common.{◌≡◌, ℕ, ◌+◌, ◌-◌, ◌<◌, ◌≤◌, ◌||◌, ◌++◌, ◌⊎◌, inl, inr, Bool, true, false, cond, List, [], ◌∷◌, length, take}
use Rattle.std.proofs.Common.{drop, get_or, Some, arith, refl, sym, ap, ap₂, ◌∙◌, map}
use Rattle.std.specs.List.{list_any}
use Rattle.std.specs.Ordering.{is_eq}
use Rattle.std.specs.BTreeSet.{BTreeSet, contains, Updates}
use Rattle.std.proofs.lemmas.Bool.{cases_lt}
use Rattle.std.proofs.lemmas.List.{get_or_append_left, get_or-append_right, take_more, length-take, length-map, take-map}
use Rattle.cell_value.specs.declared.cell.Cell.{Cell}
use Rattle.cell_value.specs.Cell.{cell_cmp, same_cells}
use Rattle.cell_value.specs.Datum.{Datum}
use Rattle.plain_groups.specs.Groups.{firsts}
use Rattle.plain_groups.specs.Aggregates.{aggregates, aggregate_of, count_cell}
use Rattle.plain_windows.specs.declared.frames.Frame.{Frame}
use Rattle.plain_windows.specs.inner.Firsts.{AreFirsts}
use Rattle.plain_windows.specs.inner.Views.{part}
use Rattle.plain_windows.proofs.CountLemmas.{firsts_more, few_firsts}

either : (b old : Bool) → cond b true old ≡ (old || b)
either true true = refl
either true false = refl
either false true = refl
either false false = refl

-- a cell that was put into a set is seen there, beside those that were seen before
pub seen_one : (old now : BTreeSet Cell) (key cell c : Cell) → key ≡ cell → Updates cell_cmp old now key true
    → contains cell_cmp now c ≡ (contains cell_cmp old c || same_cells cell c)
seen_one old now key cell c is updates =
    updates.0 c ∙ either (same_cells key c) (contains cell_cmp old c) ∙ ap (λ k. contains cell_cmp old c || same_cells k c) is

-- in an empty set nothing is seen
pub none_seen : (seen : BTreeSet Cell) (c : Cell) → seen.keys ≡ [] → contains cell_cmp seen c ≡ false
none_seen seen c e = ap (list_any (λ k. is_eq (cell_cmp c k))) e

absorbed : (b old : Bool) → (b ≡ true → old ≡ true) → old ≡ (old || b)
absorbed b true h = refl
absorbed true false h = h refl
absorbed false false h = refl

-- a cell that was seen adds nothing
pub seen_already : (seen : BTreeSet Cell) (cell c : Cell) → ((a b : Cell) → same_cells a b ≡ true → a ≡ b)
    → contains cell_cmp seen cell ≡ true → contains cell_cmp seen c ≡ (contains cell_cmp seen c || same_cells cell c)
seen_already seen cell c only h =
    absorbed (same_cells cell c) (contains cell_cmp seen c) (λ e. ap (contains cell_cmp seen) (sym (only cell c e)) ∙ h)

list_any-push : (test : Cell → Bool) (xs : List Cell) (x : Cell) → list_any test (xs ++ x ∷ []) ≡ (list_any test xs || test x)
list_any-push test [] x = right_false (test x)
  where
    right_false : (b : Bool) → (b || false) ≡ (false || b)
    right_false true = refl
    right_false false = refl
list_any-push test (y ∷ ys) x = ap (λ b. test y || b) (list_any-push test ys x) ∙ grouped (test y) (list_any test ys) (test x)
  where
    grouped : (a b c : Bool) → (a || (b || c)) ≡ ((a || b) || c)
    grouped true b c = refl
    grouped false b c = refl

module _ (cells : List Cell) (i : ℕ) (cell : Cell) (below : i < length cells) (at : cell ≡ get_or cells i cell) where
  longer : take (i + 1) cells ≡ take i cells ++ cell ∷ []
  longer = take_more cells i cell below ∙ ap (λ x. take i cells ++ x ∷ []) (sym at)

  -- one cell more was seen
  pub seen_more : (c : Cell) (old now : Bool) → now ≡ (old || same_cells cell c) → old ≡ list_any (λ z. same_cells z c) (take i cells)
      → now ≡ list_any (λ z. same_cells z c) (take (i + 1) cells)
  seen_more c old now is before =
      is ∙ ap (λ b. b || same_cells cell c) before ∙ sym (list_any-push (λ z. same_cells z c) (take i cells) cell)
      ∙ ap (list_any (λ z. same_cells z c)) (sym longer)

  -- one cell more is counted
  pub count_more : (n m : ℕ) (old : Bool) → n ≡ length (firsts same_cells (take i cells))
      → old ≡ list_any (λ z. same_cells z cell) (take i cells) → m ≡ cond old n (n + 1)
      → m ≡ length (firsts same_cells (take (i + 1) cells))
  count_more n m old is seen next =
      next ∙ added old n ∙ ap₂ (λ k b. k + cond b 0 1) is seen
      ∙ sym (firsts_more same_cells [] (take i cells) cell)
      ∙ ap (λ l. length (firsts same_cells l)) (sym longer)
    where
      added : (b : Bool) (k : ℕ) → cond b k (k + 1) ≡ k + cond b 0 1
      added true k = omega arith
      added false k = refl

-- a count grows by one at most
pub few_more : (b : Bool) (n m i : ℕ) → m ≡ cond b n (n + 1) → n ≤ i → m ≤ i + 1
few_more true n m i e l = omega (arith, e, l)
few_more false n m i e l = omega (arith, e, l)

-- counts with one more
pub counted_more : (cells : List Cell) (counts more : List ℕ) (i n : ℕ) → length counts ≡ i
    → ((k : ℕ) → k < i → get_or counts k 0 ≡ length (firsts same_cells (take k cells)))
    → n ≡ length (firsts same_cells (take i cells)) → more ≡ counts ++ n ∷ []
    → (k : ℕ) → k < i + 1 → get_or more k 0 ≡ length (firsts same_cells (take k cells))
counted_more cells counts more i n long each is pushed k below = ap (λ l. get_or l k 0) pushed ∙ pick (cases_lt k i)
  where
    pick : (k < i) ⊎ (i ≤ k) → get_or (counts ++ n ∷ []) k 0 ≡ length (firsts same_cells (take k cells))
    pick (inl less) = get_or_append_left counts (n ∷ []) 0 k (omega (arith, less, long)) ∙ each k less
    pick (inr past) =
        let same : i ≡ k = omega (arith, past, below) in
        let none : k - i ≡ 0 = omega (arith, past, below) in
        get_or-append_right counts (n ∷ []) i k 0 long past ∙ ap (λ j. get_or (n ∷ []) j 0) none ∙ is
        ∙ ap (λ j. length (firsts same_cells (take j cells))) same

module _ (rows : List Datum) (read : Datum → Cell) (counts : List ℕ) (are : AreFirsts (map read rows) counts) (frame : Frame)
    (short : frame.to ≤ length rows) where
  inside : frame.to ≤ length (map read rows)
  inside = omega (arith, short, length-map rows read)

  pub first_within : frame.to < length counts
  first_within = omega (arith, are.long, inside)

  pub first_small : get_or counts frame.to 0 ≤ length rows
  first_small =
      omega (
        arith,
        are.each frame.to inside,
        few_firsts same_cells [] (take frame.to (map read rows)),
        length-take frame.to (map read rows),
        short,
      )

  -- the count of the cells of a frame that begins with the rows
  pub firsts_of_frame : frame.from ≡ 0 → Some (count_cell (get_or counts frame.to 0)) ≡ aggregate_of 3 (map read (part frame rows))
  unfolding aggregates
  firsts_of_frame begins =
      let all : frame.to ≡ frame.to - frame.from = omega (arith, begins) in
      let front : rows ≡ drop frame.from rows = ap (λ k. drop k rows) (sym begins) in
      ap (λ n. Some (count_cell n)) (are.each frame.to inside
      ∙ ap (λ l. length (firsts same_cells l)) (take-map read frame.to rows ∙ ap₂ (λ k l. map read (take k l)) all front))
