-- What stands in a list.
use Rattle.std.proofs.Common.{◌≡◌, ℕ, zero, suc, ◌+◌, List, [], ◌∷◌, ◌++◌, map, flat_map, cond, refl, sym, ap, subst, ◌∙◌, ◌⊎◌, inl, inr, arith}
use Rattle.std.specs.Prelude.{Option, Some, None, Bool, true, false, slice_get, filter_map}
use Rattle.std.specs.List.{position_from, cons_option}
use Rattle.vega_standing.proofs.Trees.{Each}

-- it is one of them
abbrev pub In : {X : Type 0} → X → List X → Type 0
In x [] = ⊥
In x (y ∷ ys) = (x ≡ y) ⊎ In x ys

pub in_front : {X : Type 0} (x : X) (xs ys : List X) → In x xs → In x (xs ++ ys)
in_front x [] ys i = absurd i
in_front x (y ∷ xs) ys (inl same) = inl same
in_front x (y ∷ xs) ys (inr i) = inr (in_front x xs ys i)

pub in_back : {X : Type 0} (x : X) (xs ys : List X) → In x ys → In x (xs ++ ys)
in_back x [] ys i = i
in_back x (y ∷ xs) ys i = inr (in_back x xs ys i)

pub in_flat : {X Y : Type 0} (f : X → List Y) (x : X) (y : Y) (xs : List X) → In x xs → In y (f x) → In y (flat_map f xs)
in_flat f x y [] i j = absurd i
in_flat f x y (z ∷ xs) (inl same) j = in_front y (f z) (flat_map f xs) (subst (λ w. In y (f w)) same j)
in_flat f x y (z ∷ xs) (inr i) j = in_back y (f z) (flat_map f xs) (in_flat f x y xs i j)

pub in_map : {X Y : Type 0} (f : X → Y) (x : X) (xs : List X) → In x xs → In (f x) (map f xs)
in_map f x [] i = absurd i
in_map f x (z ∷ xs) (inl same) = inl (ap f same)
in_map f x (z ∷ xs) (inr i) = inr (in_map f x xs i)

pub in_filter : {X Y : Type 0} (f : X → Option Y) (x : X) (y : Y) (xs : List X) → In x xs → f x ≡ Some y → In y (filter_map f xs)
in_filter f x y [] i e = absurd i
in_filter f x y (z ∷ xs) (inl same) e = subst (λ o. In y (cons_option o (filter_map f xs))) (sym (ap f (sym same) ∙ e)) (inl refl)
in_filter f x y (z ∷ xs) (inr i) e = by_here (f z) (in_filter f x y xs i e)
  where
    by_here : (o : Option _) → In y (filter_map f xs) → In y (cons_option o (filter_map f xs))
    by_here None j = j
    by_here (Some w) j = inr j

pub each_in : {X : Type 0} (P : X → Type 0) (x : X) (xs : List X) → Each P xs → In x xs → P x
each_in P x [] each i = absurd i
each_in P x (y ∷ xs) each (inl same) = subst P (sym same) each.0
each_in P x (y ∷ xs) each (inr i) = each_in P x xs each.1 i

pub each_from_in : {X : Type 0} (P : X → Type 0) (xs : List X) → ((x : X) → In x xs → P x) → Each P xs
each_from_in P [] f = tt
each_from_in P (x ∷ xs) f = (f x (inl refl), each_from_in P xs (λ y i. f y (inr i)))

-- what stands at a number stands in the list
pub in_at : {X : Type 0} (x : X) (xs : List X) (k : ℕ) → slice_get xs k ≡ Some x → In x xs
in_at x [] k e = absurd cc
in_at x (y ∷ xs) zero e = let same : y ≡ x = cc in inl (sym same)
in_at x (y ∷ xs) (suc k) e = inr (in_at x xs k e)

-- ---- positions

pub position_there : {X : Type 0} (t : X → Bool) (x : X) (n : ℕ) (xs : List X) → In x xs → t x ≡ true → (k : ℕ) × (position_from t n xs ≡ Some k)
position_there t x n [] i e = absurd i
position_there t x n (y ∷ xs) i e = by_test (t y) refl i (λ j. position_there t x (n + 1) xs j e)
  where
    by_test : (b : Bool) → t y ≡ b → In x (y ∷ xs) → (In x xs → (k : ℕ) × (position_from t (n + 1) xs ≡ Some k)) →
        (k : ℕ) × (cond b (Some n) (position_from t (n + 1) xs) ≡ Some k)
    by_test true f j rest = (n, refl)
    by_test false f (inl same) rest = absurd (let g : t y ≡ true = ap t (sym same) ∙ e in cc)
    by_test false f (inr j) rest = rest j

pub position_none : {X : Type 0} (t : X → Bool) (n : ℕ) (xs : List X) → Each (λ x. t x ≡ false) xs → position_from t n xs ≡ None
position_none t n [] each = refl
position_none t n (x ∷ xs) each = ap (λ b. cond b (Some n) (position_from t (n + 1) xs)) each.0 ∙ position_none t (n + 1) xs each.1

further : (n k : ℕ) → n + 1 + k ≡ n + suc k
further n k = omega arith

nothing_more : (n : ℕ) → n ≡ n + 0
nothing_more n = omega arith

-- what is found stands at its number, and passes
pub position_is : {X : Type 0} (t : X → Bool) (n k : ℕ) (xs : List X) → position_from t n xs ≡ Some k →
    (x : X) × (j : ℕ) × (k ≡ n + j) × (slice_get xs j ≡ Some x) × (t x ≡ true)
position_is t n k [] e = absurd cc
position_is {X} t n k (y ∷ xs) e = by_test (t y) refl e (position_is t (n + 1) k xs)
  where
    by_test : (b : Bool) → t y ≡ b → cond b (Some n) (position_from t (n + 1) xs) ≡ Some k →
        (position_from t (n + 1) xs ≡ Some k → (x : X) × (j : ℕ) × (k ≡ n + 1 + j) × (slice_get xs j ≡ Some x) × (t x ≡ true)) →
        (x : X) × (j : ℕ) × (k ≡ n + j) × (slice_get (y ∷ xs) j ≡ Some x) × (t x ≡ true)
    by_test true f g rest = let same : n ≡ k = cc in (y, 0, sym same ∙ nothing_more n, refl, f)
    by_test false f g rest = let (x, j, is, at, passes) = rest g in (x, suc j, is ∙ further n j, at, passes)
