-- What sorts numbers gives the numbers sorted: two rising lists with the same numbers are one.
use Rattle.std.proofs.Common.{◌≡◌, ℕ, ◌+◌, suc, Bool, true, false, cond, ℤ, ◌≤ℤ◌, ◌<ℤ◌, List, [], ◌∷◌, get_or, arith, refl, sym, ap, ap₂, ◌∙◌, subst}
use Rattle.std.specs.Prelude.{int_le, count_by}
use Rattle.std.specs.Ordering.{MatchOrdering, int_cmp, is_lt}
use Rattle.std.specs.declared.cmp.Ordering.{Ordering}
use Rattle.std.specs.declared.cmp.Ordering.TheVariants.{Less, Equal, Greater}
use Rattle.std.specs.Cmp.{int_ranks}
use Rattle.std.specs.List.Sorted.{IsSorted, IsPermutation}
use Rattle.std.proofs.lemmas.Int.{ints}
use Rattle.std.proofs.lemmas.Bool.{cond_both}
use Rattle.std.proofs.lemmas.List.Sorted.{sum_by-IsPermutation}
use Rattle.std.proofs.lemmas.List.Sums.{sum_by-cons}
use Rattle.plain_groups.specs.Aggregates.{placed, sorted}

-- no number is less than m
abbrev From : ℤ → List ℤ → Type 0
From m [] = Unit {0}
From m (n ∷ ns) = (m ≤ℤ n) × From m ns

-- no number is less than those before it
abbrev Rises : List ℤ → Type 0
Rises [] = Unit {0}
Rises (n ∷ ns) = From n ns × Rises ns

from_less : (l m : ℤ) (ns : List ℤ) → l ≤ℤ m → From m ns → From l ns
from_less l m [] h f = tt
from_less l m (n ∷ ns) h f = (omega (arith, ints, f.0), from_less l m ns h f.1)

from_placed : (m n : ℤ) (ns : List ℤ) → m ≤ℤ n → From m ns → From m (placed n ns)
from_placed m n [] h f = (h, tt)
from_placed m n (k ∷ ks) h f =
    cond_both (int_le n k) (n ∷ k ∷ ks) (k ∷ placed n ks) (From m) (λ _. (h, f)) (λ _. (f.0, from_placed m n ks h f.1))

at_most : (n k : ℤ) → int_le n k ≡ true → n ≤ℤ k
at_most n k e = omega (arith, ints, e)

above : (n k : ℤ) → int_le n k ≡ false → k ≤ℤ n
above n k e = omega (arith, ints, e)

rises_placed : (n : ℤ) (ns : List ℤ) → Rises ns → Rises (placed n ns)
rises_placed n [] r = (tt, tt)
rises_placed n (k ∷ ks) r =
    cond_both (int_le n k) (n ∷ k ∷ ks) (k ∷ placed n ks) Rises
    (λ e. ((at_most n k e, from_less n k ks (at_most n k e) r.0), r))
    (λ e. (from_placed k n ks (above n k e) r.0, rises_placed n ks r.1))

rises_sorted : (ns : List ℤ) → Rises (sorted ns)
rises_sorted [] = tt
rises_sorted (n ∷ ns) = rises_placed n (sorted ns) (rises_sorted ns)

abbrev one_if : Bool → ℕ
one_if b = cond b 1 0

count_next : (p : ℤ → Bool) (n : ℤ) (ns : List ℤ) → count_by p (n ∷ ns) ≡ one_if (p n) + count_by p ns
count_next p n ns = sum_by-cons (λ x. one_if (p x)) n ns

count_placed : (p : ℤ → Bool) (n : ℤ) (ns : List ℤ) → count_by p (placed n ns) ≡ count_by p (n ∷ ns)
count_placed p n [] = refl
count_placed p n (k ∷ ks) =
    cond_both (int_le n k) (n ∷ k ∷ ks) (k ∷ placed n ks) (λ l. count_by p l ≡ count_by p (n ∷ k ∷ ks))
    (λ _. refl)
    (λ _. omega (arith, count_placed p n ks, count_next p k (placed n ks), count_next p n (k ∷ ks), count_next p k ks, count_next p n ks))

count_sorted : (p : ℤ → Bool) (ns : List ℤ) → count_by p (sorted ns) ≡ count_by p ns
count_sorted p [] = refl
count_sorted p (n ∷ ns) = omega (arith, count_placed p n (sorted ns), count_next p n (sorted ns), count_next p n ns, count_sorted p ns)

by_order : (m n : ℤ) (r : Ordering) → MatchOrdering r (n <ℤ m) (n ≡ m) (m <ℤ n) → is_lt r ≡ false → m ≤ℤ n
by_order m n Less h e = absurd (cc)
by_order m n Equal h e = omega (arith, ints, h)
by_order m n Greater h e = omega (arith, ints, h)

not_less : (m n : ℤ) → is_lt (int_cmp n m) ≡ false → m ≤ℤ n
not_less m n e = by_order m n (int_cmp n m) (int_ranks n m) e

behind_first : (x : ℤ) (xs : List ℤ) → IsSorted int_cmp (x ∷ xs) → IsSorted int_cmp xs
behind_first x xs h k d low within =
    let next : suc k + 1 ≡ suc (k + 1) = omega arith in
    subst (λ j. is_lt (int_cmp (get_or (x ∷ xs) j d) (get_or (x ∷ xs) (suc k) d)) ≡ false) next (h (suc k) d (omega arith) (omega arith))

rises_after : (xs : List ℤ) → IsSorted int_cmp xs → Rises xs
rises_after [] h = tt
rises_after (x ∷ []) h = (tt, tt)
rises_after (x ∷ y ∷ ys) h =
    let rest : Rises (y ∷ ys) = rises_after (y ∷ ys) (behind_first x (y ∷ ys) h) in
    let first : x ≤ℤ y = not_less x y (h 0 x (omega arith) (omega arith)) in
    ((first, from_less x y ys first rest.0), rest)

none_at_most : (x y : ℤ) (ys : List ℤ) → x <ℤ y → From y ys → count_by (λ z. int_le z x) ys ≡ 0
none_at_most x y [] h f = refl
none_at_most x y (z ∷ zs) h f =
    let later = none_at_most x y zs h f.1 in
    let next = count_next (λ z. int_le z x) z zs in
    cond_both (int_le z x) 1 0 (λ k. one_if (int_le z x) ≡ k → count_by (λ z. int_le z x) (z ∷ zs) ≡ 0)
    (λ e. absurd (omega (arith, ints, e, f.0, h))) (λ _ none. omega (arith, later, next, none)) refl

itself : (x : ℤ) → one_if (int_le x x) ≡ 1
itself x = cond_both (int_le x x) 1 0 (λ k. k ≡ 1) (λ _. refl) (λ e. absurd (omega (arith, ints, e)))

-- the first of the one isn't less than the first of the other
first_at_most : (x y : ℤ) (xs ys : List ℤ) → From y ys → ((p : ℤ → Bool) → count_by p (x ∷ xs) ≡ count_by p (y ∷ ys)) → y ≤ℤ x
first_at_most x y xs ys f same =
    cond_both {A = ℕ} (int_le y x) 1 0 (λ _. y ≤ℤ x) (λ e. at_most y x e)
    (λ e. let less : x <ℤ y = omega (arith, ints, e) in
    absurd (omega (arith, same (λ z. int_le z x), none_at_most x y (y ∷ ys) less (omega (arith, ints), f), count_next (λ z. int_le z x) x xs, itself x)))

one_rising : (xs ys : List ℤ) → Rises xs → Rises ys → ((p : ℤ → Bool) → count_by p xs ≡ count_by p ys) → xs ≡ ys
one_rising [] [] r s same = refl
one_rising [] (y ∷ ys) r s same = absurd (omega (arith, same (λ z. true), count_next (λ z. true) y ys))
one_rising (x ∷ xs) [] r s same = absurd (omega (arith, same (λ z. true), count_next (λ z. true) x xs))
one_rising (x ∷ xs) (y ∷ ys) r s same =
    let first : x ≡ y = omega (arith, ints, first_at_most x y xs ys s.0 same, first_at_most y x ys xs r.0 (λ p. sym (same p))) in
    ap₂ (λ n ns. n ∷ ns) first (one_rising xs ys r.1 s.1 (λ p. omega (arith, same p, count_next p x xs, count_next p y ys, ap (λ z. one_if (p z)) first)))

-- a sort gives the numbers sorted
pub sort_gives : (ns ms : List ℤ) → IsPermutation ns ms → IsSorted int_cmp ms → ms ≡ sorted ns
sort_gives ns ms moved rises =
    one_rising ms (sorted ns) (rises_after ms rises) (rises_sorted ns)
    (λ p. sum_by-IsPermutation (λ x. cond (p x) 1 0) ns ms moved ∙ sym (count_sorted p ns))
