-- Searches by halves.
use Rattle.std.proofs.Common.{◌≡◌, ◌≢◌, ℕ, suc, ◌<◌, ◌≤◌, Bool, true, false, ◌||◌, Ok, Err, Some, List, [], ◌∷◌, length, nat_lt, get_or}
use Rattle.std.proofs.Common.{refl, sym, ap, ◌∙◌, arith}
use Rattle.std.specs.Prelude.{◌==◌}
use Rattle.std.specs.Ordering.{nat_cmp, is_le, is_some_and}
use Rattle.std.specs.List.{IsAllAdjacentAnswer}
use Rattle.std.specs.List.Sorted.{IsNonDecreasing, IsBinarySearchResult}
use Rattle.std.proofs.lemmas.List.Sorted.{searched, non_decreasing_from_is_sorted}
use Rattle.std.proofs.lemmas.List.Folds.{list_any_at}
use Rattle.std.proofs.lemmas.Bool.{false_from_ne_true, ltb-true, ltb-false}
use Rattle.std.proofs.lemmas.Bool.Decides.{Decides-eqb}
use Rattle.selection_events.specs.Hits.{is_among}

-- numbers that are found to rise do
pub rising : (xs : List ℕ) (r : Bool) → IsAllAdjacentAnswer (λ x y b. is_some_and is_le (Some (nat_cmp x y)) ≡ b) xs r → r ≡ true → IsNonDecreasing xs
rising xs true h is = non_decreasing_from_is_sorted xs true h
rising xs false h is = absurd (cc is)

differs : (x y : ℕ) → x ≢ y → (x == y) ≡ false
differs x y h = false_from_ne_true (x == y) (λ e. h ((Decides-eqb x y).0 e))

none : (xs : List ℕ) (x : ℕ) → ((k : ℕ) → k < length xs → get_or xs k 0 ≢ x) → is_among xs x ≡ false
none [] x h = refl
none (y ∷ ys) x h =
    ap (λ b. b || is_among ys x) (differs y x (h 0 (omega arith))) ∙ none ys x (λ k below. h (suc k) (omega (arith, below)))

module _ (xs : List ℕ) (x : ℕ) (rise : IsNonDecreasing xs) where
  -- what is found is there
  pub found : (i : ℕ) → IsBinarySearchResult (λ y. nat_cmp y x) xs (Ok i) → true ≡ is_among xs x
  found i h =
      let at = searched xs x (Ok i) h (λ i j up below. rise i j 0 up below) in
      sym (list_any_at (λ u. u == x) xs i 0 at.0 ((Decides-eqb (get_or xs i 0) x).1 at.1))

  either : (i : ℕ) → ((k : ℕ) → k < i → get_or xs k 0 < x) → ((k : ℕ) → i ≤ k → k < length xs → x < get_or xs k 0) → (k : ℕ)
      → k < length xs → get_or xs k 0 ≢ x
  either i low high k below is = by_place (nat_lt k i) refl
    where
      by_place : (b : Bool) → nat_lt k i ≡ b → ⊥
      by_place true e = let less = ltb-true k i e in let under = low k less in absurd (omega (arith, under, is))
      by_place false e = let more = ltb-false k i e in let over = high k more below in absurd (omega (arith, over, is))

  -- what isn't found is not
  pub not_found : (i : ℕ) → IsBinarySearchResult (λ y. nat_cmp y x) xs (Err i) → false ≡ is_among xs x
  not_found i h =
      let at = searched xs x (Err i) h (λ i j up below. rise i j 0 up below) in
      sym (none xs x (either i at.1 at.2))
