-- Views behind the last that has a property.
use Rattle.std.proofs.Common.{◌≡◌, ℕ, zero, suc, ◌+◌, ◌-◌, ◌<◌, ◌≤◌, Bool, true, false, ◌||◌, List, [], ◌∷◌, map, cond, drop, get_or}
use Rattle.std.proofs.Common.{length, refl, sym, ap, ◌∙◌, arith}
use Rattle.std.specs.List.{list_any}
use Rattle.std.proofs.lemmas.List.{drop_more, length-map}
use Rattle.vl_compose.specs.declared.here.ViewHere.{ViewHere}
use Rattle.vl_compose.specs.Rounds.{ViewAt, Round}
use Rattle.vl_compose.specs.Shown.{round_shown, view_shown}
use Rattle.vl_compose.specs.Views.{behind, first_number}

-- where none has it, all are behind
behind_none : (has : ViewAt → Bool) (xs : Round) → list_any has xs ≡ false → behind has xs ≡ xs
behind_none has [] e = refl
behind_none has (x ∷ xs) e = λ i. cond (e i) (behind has xs) (x ∷ xs)

one_has : (has : ViewAt → Bool) (xs : Round) (n : ℕ) (d : ViewAt) → n < length xs → has (get_or xs n d) ≡ true → list_any has xs ≡ true
one_has has [] n d within e = absurd (omega arith)
one_has has (x ∷ xs) zero d within e = λ i. e i || list_any has xs
one_has has (x ∷ xs) (suc n) d within e = always (has x) (list_any has xs) (one_has has xs n d (omega arith) e)
  where
    always : (a b : Bool) → b ≡ true → (a || b) ≡ true
    always true b e = refl
    always false b e = e

behind_one : (has : ViewAt → Bool) (xs : Round) (n : ℕ) (d : ViewAt) → n < length xs → has (get_or xs n d) ≡ true →
    list_any has (drop (suc n) xs) ≡ false → behind has xs ≡ drop (suc n) xs
behind_one has [] n d within e none = absurd (omega arith)
behind_one has (x ∷ xs) zero d within e none = (λ i. cond (e i || list_any has xs) (behind has xs) (x ∷ xs)) ∙ behind_none has xs none
behind_one has (x ∷ xs) (suc n) d within e none =
    (λ i. cond (one_has has (x ∷ xs) (suc n) d within e i) (behind has xs) (x ∷ xs)) ∙ behind_one has xs n d (omega arith) e none

pub at_place : {X A : Type 0} (shown : X → A) (xs : List X) (n : ℕ) (d : X) → get_or (map shown xs) n (shown d) ≡ shown (get_or xs n d)
at_place shown [] n d = refl
at_place shown (x ∷ xs) zero d = refl
at_place shown (x ∷ xs) (suc n) d = at_place shown xs n d

module _ {X : Type 0} (shown : X → ViewAt) (has : ViewAt → Bool) (xs : List X) where
  -- a view that doesn't have it, before others that don't
  pub back : (place : ℕ) (d : X) → 0 < place → place ≤ length xs → has (shown (get_or xs (place - 1) d)) ≡ false →
      list_any has (drop place (map shown xs)) ≡ false → list_any has (drop (place - 1) (map shown xs)) ≡ false
  back place d above within e none =
      let on : (place - 1) + 1 ≡ place = omega arith in
      let many = length-map xs shown in
      let here : place - 1 < length (map shown xs) = omega arith in
      ap (list_any has) (drop_more (map shown xs) (place - 1) (shown d) here)
      ∙ (λ i. has (at_place shown xs (place - 1) d i) || list_any has (drop (on i) (map shown xs)))
      ∙ (λ i. e i || none i)

  -- one that has it before others that don't
  pub stops : (place : ℕ) (d : X) → 0 < place → place ≤ length xs → has (shown (get_or xs (place - 1) d)) ≡ true →
      list_any has (drop place (map shown xs)) ≡ false → first_number (drop place (map shown xs)) ≡ first_number (behind has (map shown xs))
  stops place d above within e none =
      let on : suc (place - 1) ≡ place = omega arith in
      let many = length-map xs shown in
      let here : place - 1 < length (map shown xs) = omega arith in
      ap (λ k. first_number (drop k (map shown xs))) (sym on)
      ∙ ap first_number (sym (behind_one has (map shown xs) (place - 1) (shown d) here (ap has (at_place shown xs (place - 1) d) ∙ e)
      (ap (λ k. list_any has (drop k (map shown xs))) on ∙ none)))

  -- none that has it
  pub ends : (place : ℕ) → place ≡ 0 → list_any has (drop place (map shown xs)) ≡ false →
      first_number (drop place (map shown xs)) ≡ first_number (behind has (map shown xs))
  ends place first none =
      ap (λ k. first_number (drop k (map shown xs))) first
      ∙ ap first_number (sym (behind_none has (map shown xs) (ap (λ k. list_any has (drop k (map shown xs))) (sym first) ∙ none)))

-- the next of the views from a place on
pub next_shown : (xs : List ViewHere) (n : ℕ) (x : ViewHere) → n < length xs → x ≡ get_or xs n x →
    drop n (round_shown xs) ≡ view_shown x ∷ drop (n + 1) (round_shown xs)
next_shown xs n x within is =
    let many = length-map xs view_shown in
    let here : n < length (round_shown xs) = omega arith in
    drop_more (round_shown xs) n (view_shown x) here
    ∙ (λ i. (at_place view_shown xs n x ∙ ap view_shown (sym is)) i ∷ drop (n + 1) (round_shown xs))

-- the first of them
pub first_at : (xs : List ViewHere) (n : ℕ) (x : ViewHere) → n < length xs → x ≡ get_or xs n x → x.number ≡ first_number (drop n (round_shown xs))
first_at xs n x within is = ap first_number (sym (next_shown xs n x within is))
