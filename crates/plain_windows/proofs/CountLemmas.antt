-- How many elements that aren't alike stand before a place.
use Rattle.std.proofs.Common.{◌≡◌, ℕ, zero, suc, ◌+◌, ◌≤◌, Bool, true, false, cond, ◌||◌, List, [], ◌∷◌, ◌++◌, length, take, get_or}
use Rattle.std.proofs.Common.{append_assoc, arith, refl, sym, ap, ap₂, ◌∙◌}
use Rattle.std.specs.List.{list_any}
use Rattle.std.specs.declared.cmp.Ordering.{Ordering}
use Rattle.std.specs.declared.cmp.Ordering.TheVariants.{Less, Equal, Greater}
use Rattle.std.specs.Ordering.{is_eq, is_gt, ordering_reverse}
use Rattle.std.specs.Cmp.{IsTotalOrder}
use Rattle.std.proofs.lemmas.Bool.{cond_both}
use Rattle.std.proofs.lemmas.Cmp.{upto}
use Rattle.std.proofs.lemmas.List.{append-nil}
use Rattle.plain_groups.specs.Groups.{firsts_behind, firsts}
use Rattle.plain_orders.proofs.OrderLemmas.{Each}
use Rattle.plain_windows.specs.inner.Rising.{AtMost, From, Rises}
use Rattle.plain_windows.specs.inner.Views.{counts_behind, counts}

module _ {X : Type 0} (like : X → X → Bool) where
  lone : (b : Bool) (y : X) → length (cond b [] (y ∷ [])) ≡ 0 + cond b 0 1
  lone true y = refl
  lone false y = refl

  -- one element more
  pub firsts_more : (before xs : List X) (y : X) → length (firsts_behind like before (xs ++ y ∷ []))
      ≡ length (firsts_behind like before xs) + cond (list_any (λ z. like z y) (before ++ xs)) 0 1
  firsts_more before [] y =
      lone (list_any (λ z. like z y) before) y
      ∙ ap (λ l. 0 + cond (list_any (λ z. like z y) l) 0 1) (sym (append-nil before))
  firsts_more before (x ∷ xs) y =
      step (list_any (λ z. like z x) before)
      (firsts_more (before ++ x ∷ []) xs y
      ∙ ap (λ l. length (firsts_behind like (before ++ x ∷ []) xs) + cond (list_any (λ z. like z y) l) 0 1)
      (append_assoc before (x ∷ []) xs))
    where
      step : (b : Bool) → length (firsts_behind like (before ++ x ∷ []) (xs ++ y ∷ []))
          ≡ length (firsts_behind like (before ++ x ∷ []) xs) + cond (list_any (λ z. like z y) (before ++ x ∷ xs)) 0 1
          → length (cond b (firsts_behind like (before ++ x ∷ []) (xs ++ y ∷ []))
          (x ∷ firsts_behind like (before ++ x ∷ []) (xs ++ y ∷ [])))
          ≡ length (cond b (firsts_behind like (before ++ x ∷ []) xs) (x ∷ firsts_behind like (before ++ x ∷ []) xs))
          + cond (list_any (λ z. like z y) (before ++ x ∷ xs)) 0 1
      step true h = h
      step false h = omega (arith, h)

  pub few_firsts : (before xs : List X) → length (firsts_behind like before xs) ≤ length xs
  few_firsts before [] = omega arith
  few_firsts before (x ∷ xs) =
      let later = few_firsts (before ++ x ∷ []) xs in
      cond_both (list_any (λ y. like y x) before) (firsts_behind like (before ++ x ∷ []) xs)
      (x ∷ firsts_behind like (before ++ x ∷ []) xs) (λ l. length l ≤ suc (length xs))
      (λ _. omega (arith, later)) (λ _. omega (arith, later))

is_tie : (r : Ordering) → is_eq r ≡ true → r ≡ Equal
is_tie Less e = absurd (cc)
is_tie Equal e = refl
is_tie Greater e = absurd (cc)

neither : (r : Ordering) → is_gt r ≡ false → is_gt (ordering_reverse r) ≡ false → is_eq r ≡ true
neither Less e f = absurd (cc)
neither Equal e f = refl
neither Greater e f = absurd (cc)

module _ {X : Type 0} {c : X → X → Ordering} (o : IsTotalOrder c) where
  abbrev same : X → X → Bool
  same x y = is_eq (c x y)

  -- what stands between peers is one of them
  squeezed : (b x y : X) → AtMost c b x → AtMost c x y → same b y ≡ true → same x y ≡ true
  squeezed b x y low high e =
      let tie : c b y ≡ Equal = is_tie (c b y) e in
      let back : AtMost c y b = ap is_gt (o.antisymm y b ∙ ap ordering_reverse tie) in
      let under : AtMost c y x = upto o y b x back low in
      neither (c x y) high (ap is_gt (sym (o.antisymm y x)) ∙ under)

  any_is : (bs : List X) (x y : X) → Each (λ b. AtMost c b x) bs → AtMost c x y → list_any (λ z. same z y) (bs ++ x ∷ []) ≡ same x y
  any_is [] x y e high = lone_or (same x y)
    where
      lone_or : (b : Bool) → (b || false) ≡ b
      lone_or true = refl
      lone_or false = refl
  any_is (b ∷ bs) x y e high = pick (same b y) refl (any_is bs x y e.1 high)
    where
      pick : (u : Bool) → same b y ≡ u → list_any (λ z. same z y) (bs ++ x ∷ []) ≡ same x y
          → (u || list_any (λ z. same z y) (bs ++ x ∷ [])) ≡ same x y
      pick true f h = sym (squeezed b x y e.0 high f)
      pick false f h = h

  each_next : (bs : List X) (x y : X) → Each (λ b. AtMost c b x) bs → AtMost c x y → Each (λ b. AtMost c b y) (bs ++ x ∷ [])
  each_next [] x y e high = (high, tt)
  each_next (b ∷ bs) x y e high = (upto o b x y e.0 high, each_next bs x y e.1 high)

  next_is : (n : ℕ) (b : Bool) → cond b n (n + 1) ≡ n + cond b 0 1
  next_is n true = omega arith
  next_is n false = refl

  counts_after : (bs : List X) (x : X) (ys : List X) → Each (λ b. AtMost c b x) bs → From c x ys → Rises c ys → (k : ℕ) → k ≤ length ys
      → (n : ℕ) → n ≡ length (firsts same (bs ++ x ∷ []))
      → get_or (counts_behind same x n ys) k 0 ≡ length (firsts same ((bs ++ x ∷ []) ++ take k ys))
  counts_after bs x [] e f r zero l n is = is ∙ ap (λ l. length (firsts same l)) (sym (append-nil (bs ++ x ∷ [])))
  counts_after bs x [] e f r (suc k) l n is = absurd (omega (arith, l))
  counts_after bs x (y ∷ ys) e f r zero l n is = is ∙ ap (λ l. length (firsts same l)) (sym (append-nil (bs ++ x ∷ [])))
  counts_after bs x (y ∷ ys) e f r (suc k) l n is =
      let more : cond (same x y) n (n + 1) ≡ length (firsts same ((bs ++ x ∷ []) ++ y ∷ [])) =
      next_is n (same x y)
      ∙ ap₂ (λ m b. m + cond b 0 1) is (sym (any_is bs x y e f.0))
      ∙ sym (firsts_more same [] (bs ++ x ∷ []) y) in
      counts_after (bs ++ x ∷ []) y ys (each_next bs x y e f.0) r.0 r.1 k (omega (arith, l)) (cond (same x y) n (n + 1)) more
      ∙ ap (λ l. length (firsts same l)) (append_assoc (bs ++ x ∷ []) (y ∷ []) (take k ys))

  -- of a rising list the counts are those of the first of the elements that tie
  pub counts_are : (xs : List X) → Rises c xs → (k : ℕ) → k ≤ length xs → get_or (counts same xs) k 0 ≡ length (firsts same (take k xs))
  counts_are [] r zero l = refl
  counts_are [] r (suc k) l = absurd (omega (arith, l))
  counts_are (x ∷ xs) r zero l = refl
  counts_are (x ∷ xs) r (suc k) l = counts_after [] x xs tt r.0 r.1 k (omega (arith, l)) 1 refl

module _ {X : Type 0} (same : X → X → Bool) where
  length_behind : (x : X) (n : ℕ) (ys : List X) → length (counts_behind same x n ys) ≡ length ys + 1
  length_behind x n [] = refl
  length_behind x n (y ∷ ys) = let later = length_behind y (cond (same x y) n (n + 1)) ys in omega (arith, later)

  pub length_counts : (xs : List X) → length (counts same xs) ≡ length xs + 1
  length_counts [] = refl
  length_counts (x ∷ xs) = let later = length_behind x 1 xs in omega (arith, later)
