-- Lists of all numbers with a property, from the least to the greatest.
use Rattle.std.proofs.Common.{◌≡◌, ◌⊎◌, zero, suc, Bool, true, false, cond, ℤ, ◌<ℤ◌, ◌≤ℤ◌, List, [], ◌∷◌, get_or, filter, refl, sym, ap}
use Rattle.std.proofs.Common.{◌∙◌, subst, ⊎_elim, arith}
use Rattle.std.specs.List.{Contains}
use Rattle.std.proofs.lemmas.Int.{ints}
use Rattle.std.proofs.lemmas.List.Elements.{All-cons, All-filter, filter_passes, Contains-append_right}
use Rattle.std.proofs.lemmas.List.Kept.{AllPairs-cons, AllPairs-filter}
use Rattle.tick_kit.specs.Ticks.{AreAll}

-- the same numbers by another property
pub all_same : (P Q : ℤ → Type 0) (xs : List ℤ) → ((z : ℤ) → P z → Q z) → ((z : ℤ) → Q z → P z) → AreAll P xs → AreAll Q xs
all_same P Q xs to back all = record {
  ascending = all.ascending;
  each = λ k d h. to _ (all.each k d h);
  all = λ z q. all.all z (back z q);
}

-- no number has the property
pub all_none : (P : ℤ → Type 0) → ((z : ℤ) → P z → ⊥) → AreAll P []
all_none P none = record {
  ascending = λ i j d h l. absurd (omega (arith, l));
  each = λ k d h. absurd (omega (arith, h));
  all = λ z p. absurd (none z p);
}

-- the number is there
pub here : (x z : ℤ) (xs : List ℤ) → z ≡ x → Contains (x ∷ xs) z
here x z xs e = (0, omega arith, sym e)

-- the least number, and all that are greater
pub all_after : (P : ℤ → Type 0) (x : ℤ) (xs : List ℤ) → P x → ((z : ℤ) → P z → (z ≡ x) ⊎ (x <ℤ z))
    → AreAll (λ z. P z × (x <ℤ z)) xs → AreAll P (x ∷ xs)
all_after P x xs p least all = record {
  ascending = AllPairs-cons (λ a b. a <ℤ b) x xs (λ k d h. (all.each k d h).1) all.ascending;
  each = All-cons P x xs p (λ k d h. (all.each k d h).0);
  all = λ z q.
      ⊎_elim (λ (e : z ≡ x). here x z xs e) (λ (l : x <ℤ z). Contains-append_right (x ∷ []) xs z (all.all z (q, l))) (least z q);
}

-- ---- those that pass a test

kept : (x z : ℤ) (b : Bool) (xs : List ℤ) → Contains xs z → Contains (cond b (x ∷ xs) xs) z
kept x z true xs there = Contains-append_right (x ∷ []) xs z there
kept x z false xs there = there

in_filter : (p : ℤ → Bool) (xs : List ℤ) (z : ℤ) → p z ≡ true → Contains xs z → Contains (filter p xs) z
in_filter p [] z passes (k, inside, is) = absurd (omega (arith, inside))
in_filter p (x ∷ xs) z passes (zero, inside, is) =
    let same : x ≡ z = is in
    subst (λ b. Contains (cond b (x ∷ filter p xs) (filter p xs)) z) (sym (ap p same ∙ passes)) (here x z (filter p xs) (sym same))
in_filter p (x ∷ xs) z passes (suc k, inside, is) = kept x z (p x) (filter p xs) (in_filter p xs z passes (k, omega (arith, inside), is))

pub all_passing : (P : ℤ → Type 0) (p : ℤ → Bool) (xs : List ℤ) → AreAll P xs → AreAll (λ z. P z × (p z ≡ true)) (filter p xs)
all_passing P p xs all = record {
  ascending = AllPairs-filter (λ a b. a <ℤ b) p xs all.ascending;
  each = λ k d h. (All-filter p P xs all.each k d h, filter_passes p xs k d h);
  all = λ z q. in_filter p xs z q.1 (all.all z q.0);
}

-- ---- there is one such list

in_tail : (x z : ℤ) (xs : List ℤ) → x <ℤ z → Contains (x ∷ xs) z → Contains xs z
in_tail x z xs past (zero, inside, is) = let same : x ≡ z = is in absurd (omega (arith, ints, past, same))
in_tail x z xs past (suc k, inside, is) = (k, omega (arith, inside), is)

tail_of : (P : ℤ → Type 0) (x : ℤ) (xs : List ℤ) → AreAll P (x ∷ xs) → AreAll (λ z. P z × (x <ℤ z)) xs
tail_of P x xs all = record {
  ascending = λ i j d below inside. all.ascending (suc i) (suc j) d (omega (arith, below)) (omega (arith, inside));
  each = λ k d h. (all.each (suc k) d (omega (arith, h)), all.ascending zero (suc k) d (omega arith) (omega (arith, h)));
  all = λ z q. in_tail x z xs q.1 (all.all z q.0);
}

first_is_least : (P : ℤ → Type 0) (x y : ℤ) (ys : List ℤ) → AreAll P (y ∷ ys) → Contains (y ∷ ys) x → y ≤ℤ x
first_is_least P x y ys all (zero, inside, is) = let same : y ≡ x = is in omega (arith, ints, same)
first_is_least P x y ys all (suc k, inside, is) =
    let after : y <ℤ get_or ys k x = all.ascending zero (suc k) x (omega arith) inside in
    let same : get_or ys k x ≡ x = is in
    omega (arith, ints, after, same)

pub all_are_one : (P : ℤ → Type 0) (xs ys : List ℤ) → AreAll P xs → AreAll P ys → xs ≡ ys
all_are_one P [] [] a b = refl
all_are_one P [] (y ∷ ys) a b = none_in y (a.all y (b.each zero y (omega arith)))
  where
    none_in : (y : ℤ) → Contains [] y → [] ≡ y ∷ ys
    none_in y (k, inside, is) = absurd (omega (arith, inside))
all_are_one P (x ∷ xs) [] a b = none_in x (b.all x (a.each zero x (omega arith)))
  where
    none_in : (x : ℤ) → Contains [] x → x ∷ xs ≡ []
    none_in x (k, inside, is) = absurd (omega (arith, inside))
all_are_one P (x ∷ xs) (y ∷ ys) a b =
    let low = first_is_least P x y ys b (b.all x (a.each zero x (omega arith))) in
    let high = first_is_least P y x xs a (a.all y (b.each zero y (omega arith))) in
    let same : x ≡ y = omega (arith, ints, low, high) in
    let rest = all_are_one (λ z. P z × (x <ℤ z)) xs ys (tail_of P x xs a)
    (subst (λ w. AreAll (λ z. P z × (w <ℤ z)) ys) (sym same) (tail_of P y ys b)) in
    ap (λ w. w ∷ xs) same ∙ ap (λ l. y ∷ l) rest
