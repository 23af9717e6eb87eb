-- What sorts a list gives it in order: two rising lists with the same elements are one.
use Rattle.std.proofs.Common.{◌≡◌, ℕ, ◌+◌, suc, Bool, true, false, cond, not, List, [], ◌∷◌, get_or, arith, refl, sym, ap, ap₂, ◌∙◌, subst}
use Rattle.std.specs.Prelude.{count_by}
use Rattle.std.specs.Ordering.{is_lt, is_gt, ordering_reverse}
use Rattle.std.specs.declared.cmp.Ordering.{Ordering}
use Rattle.std.specs.declared.cmp.Ordering.TheVariants.{Less, Equal, Greater}
use Rattle.std.specs.Cmp.{IsTotalOrder, tied_itself}
use Rattle.std.specs.List.Sorted.{IsSorted, IsPermutation}
use Rattle.std.proofs.lemmas.Bool.{cond_both}
use Rattle.std.proofs.lemmas.Cmp.{upto}
use Rattle.std.proofs.lemmas.List.Sorted.{sum_by-IsPermutation}
use Rattle.std.proofs.lemmas.List.Sums.{sum_by-cons}
use Rattle.plain_orders.specs.Orders.{placed, in_order}

less_is_not_greater : (r : Ordering) → is_lt r ≡ true → is_gt r ≡ false
less_is_not_greater Less e = refl
less_is_not_greater Equal e = refl
less_is_not_greater Greater e = absurd (cc)

greater_is_not_less : (r : Ordering) → is_gt r ≡ true → is_lt r ≡ false
greater_is_not_less Less e = absurd (cc)
greater_is_not_less Equal e = refl
greater_is_not_less Greater e = refl

neither : (r : Ordering) → is_gt r ≡ false → is_lt r ≡ false → r ≡ Equal
neither Less e f = absurd (cc)
neither Equal e f = refl
neither Greater e f = absurd (cc)

pub differ : {A : Type 0} (b : Bool) → b ≡ true → b ≡ false → A
differ b e f = absurd (cc)

abbrev one_if : Bool → ℕ
one_if b = cond b 1 0

count_next : {X : Type 0} (p : X → Bool) (n : X) (ns : List X) → count_by p (n ∷ ns) ≡ one_if (p n) + count_by p ns
count_next p n ns = sum_by-cons (λ x. one_if (p x)) n ns

module _ {X : Type 0} {order : X → X → Ordering} (o : IsTotalOrder order) where
  abbrev AtMost : X → X → Type 0
  AtMost x y = is_gt (order x y) ≡ false

  flipped : (x y : X) → is_lt (order y x) ≡ is_gt (order x y)
  flipped x y = ap is_lt (o.antisymm y x) ∙ turned (order x y)
    where
      turned : (r : Ordering) → is_lt (ordering_reverse r) ≡ is_gt r
      turned Less = refl
      turned Equal = refl
      turned Greater = refl

  -- no element is less than m
  abbrev From : X → List X → Type 0
  From m [] = Unit {0}
  From m (n ∷ ns) = AtMost m n × From m ns

  -- no element is less than those before it
  abbrev Rises : List X → Type 0
  Rises [] = Unit {0}
  Rises (n ∷ ns) = From n ns × Rises ns

  from_less : (l m : X) (ns : List X) → AtMost l m → From m ns → From l ns
  from_less l m [] h f = tt
  from_less l m (n ∷ ns) h f = (upto o l m n h f.0, from_less l m ns h f.1)

  from_placed : (m n : X) (ns : List X) → AtMost m n → From m ns → From m (placed order n ns)
  from_placed m n [] h f = (h, tt)
  from_placed m n (k ∷ ks) h f =
      cond_both (is_lt (order k n)) (k ∷ placed order n ks) (n ∷ k ∷ ks) (From m) (λ _. (f.0, from_placed m n ks h f.1)) (λ _. (h, f))

  rises_placed : (n : X) (ns : List X) → Rises ns → Rises (placed order n ns)
  rises_placed n [] r = (tt, tt)
  rises_placed n (k ∷ ks) r =
      cond_both (is_lt (order k n)) (k ∷ placed order n ks) (n ∷ k ∷ ks) Rises
      (λ e. (from_placed k n ks (less_is_not_greater (order k n) e) r.0, rises_placed n ks r.1))
      (λ e. let below : AtMost n k = sym (flipped n k) ∙ e in ((below, from_less n k ks below r.0), r))

  rises_in_order : (ns : List X) → Rises (in_order order ns)
  rises_in_order [] = tt
  rises_in_order (n ∷ ns) = rises_placed n (in_order order ns) (rises_in_order ns)

  count_placed : (p : X → Bool) (n : X) (ns : List X) → count_by p (placed order n ns) ≡ count_by p (n ∷ ns)
  count_placed p n [] = refl
  count_placed p n (k ∷ ks) =
      cond_both (is_lt (order k n)) (k ∷ placed order n ks) (n ∷ k ∷ ks) (λ l. count_by p l ≡ count_by p (n ∷ k ∷ ks))
      (λ _. omega (
        arith,
        count_placed p n ks,
        count_next p k (placed order n ks),
        count_next p n (k ∷ ks),
        count_next p k ks,
        count_next p n ks,
      ))
      (λ _. refl)

  count_in_order : (p : X → Bool) (ns : List X) → count_by p (in_order order ns) ≡ count_by p ns
  count_in_order p [] = refl
  count_in_order p (n ∷ ns) =
      omega (arith, count_placed p n (in_order order ns), count_next p n (in_order order ns), count_next p n ns, count_in_order p ns)

  behind_first : (x : X) (xs : List X) → IsSorted order (x ∷ xs) → IsSorted order xs
  behind_first x xs h k d low within =
      let next : suc k + 1 ≡ suc (k + 1) = omega arith in
      subst (λ j. is_lt (order (get_or (x ∷ xs) j d) (get_or (x ∷ xs) (suc k) d)) ≡ false) next (h (suc k) d (omega arith) (omega arith))

  rises_after : (xs : List X) → IsSorted order xs → Rises xs
  rises_after [] h = tt
  rises_after (x ∷ []) h = (tt, tt)
  rises_after (x ∷ y ∷ ys) h =
      let rest : Rises (y ∷ ys) = rises_after (y ∷ ys) (behind_first x (y ∷ ys) h) in
      let first : AtMost x y = sym (flipped x y) ∙ h 0 x (omega arith) (omega arith) in
      ((first, from_less x y ys first rest.0), rest)

  abbrev at_most : X → X → Bool
  at_most x z = not (is_gt (order z x))

  none_at_most : (x y : X) (ys : List X) → is_gt (order y x) ≡ true → From y ys → count_by (at_most x) ys ≡ 0
  none_at_most x y [] h f = refl
  none_at_most x y (z ∷ zs) h f =
      let later = none_at_most x y zs h f.1 in
      let next = count_next (at_most x) z zs in
      cond_both {A = ℕ} (is_gt (order z x)) 0 1 (λ k. one_if (at_most x z) ≡ k → count_by (at_most x) (z ∷ zs) ≡ 0)
      (λ _ none. omega (arith, later, next, none)) (λ e. differ (is_gt (order y x)) h (upto o y z x f.0 e)) (one_of (is_gt (order z x)))
    where
      one_of : (b : Bool) → one_if (not b) ≡ cond b 0 1
      one_of true = refl
      one_of false = refl

  itself : (x : X) → one_if (at_most x x) ≡ 1
  itself x = ap (λ r. one_if (not (is_gt r))) (tied_itself o x)

  -- the first of the one isn't less than the first of the other
  first_at_most : (x y : X) (xs ys : List X) → From y ys → ((p : X → Bool) → count_by p (x ∷ xs) ≡ count_by p (y ∷ ys)) → AtMost y x
  first_at_most x y xs ys f same =
      cond_both {A = ℕ} (is_gt (order y x)) 0 1 (λ _. AtMost y x)
      (λ e. let none : count_by (at_most x) (y ∷ ys) ≡ 0 =
      omega (arith, count_next (at_most x) y ys, none_at_most x y ys e f, ap (λ b. one_if (not b)) e) in
      absurd (omega (arith, same (at_most x), none, count_next (at_most x) x xs, itself x)))
      (λ e. e)

  module _ (tie : (a b : X) → order a b ≡ Equal → a ≡ b) where
    one_rising : (xs ys : List X) → Rises xs → Rises ys → ((p : X → Bool) → count_by p xs ≡ count_by p ys) → xs ≡ ys
    one_rising [] [] r s same = refl
    one_rising [] (y ∷ ys) r s same = absurd (omega (arith, same (λ z. true), count_next (λ z. true) y ys))
    one_rising (x ∷ xs) [] r s same = absurd (omega (arith, same (λ z. true), count_next (λ z. true) x xs))
    one_rising (x ∷ xs) (y ∷ ys) r s same =
        let first : x ≡ y = tie x y
        (neither (order x y) (first_at_most y x ys xs r.0 (λ p. sym (same p))) (flipped y x ∙ first_at_most x y xs ys s.0 same)) in
        ap₂ (λ n ns. n ∷ ns) first
        (one_rising xs ys r.1 s.1 (λ p. omega (arith, same p, count_next p x xs, count_next p y ys, ap (λ z. one_if (p z)) first)))

    -- a sort gives the list in order
    pub sort_gives : (ns ms : List X) → IsPermutation ns ms → IsSorted order ms → ms ≡ in_order order ns
    sort_gives ns ms moved rises =
        one_rising ms (in_order order ns) (rises_after ms rises) (rises_in_order ns)
        (λ p. sum_by-IsPermutation (λ x. cond (p x) 1 0) ns ms moved ∙ sym (count_in_order p ns))
