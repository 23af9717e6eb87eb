-- What a stable sort gives is the list in order: two rising lists whose elements that tie stand alike are one.
use Rattle.std.proofs.Common.{◌≡◌, ◌+◌, suc, Bool, true, false, cond, not, ◌&&◌, List, [], ◌∷◌, get_or, arith, refl, sym, ap, ◌∙◌, subst}
use Rattle.std.specs.Ordering.{is_lt, is_gt, ordering_reverse}
use Rattle.std.specs.List.{filter}
use Rattle.std.specs.declared.cmp.Ordering.{Ordering}
use Rattle.std.specs.declared.cmp.Ordering.TheVariants.{Less, Equal, Greater}
use Rattle.std.specs.Cmp.{IsTotalOrder, tied_itself}
use Rattle.std.specs.List.Sorted.{IsSorted, IsStable, ties}
use Rattle.std.proofs.lemmas.Bool.{cond_both}
use Rattle.std.proofs.lemmas.Cmp.{upto}
use Rattle.plain_orders.specs.Orders.{placed, in_order}

less_is_not_greater : (r : Ordering) → is_lt r ≡ true → is_gt r ≡ false
less_is_not_greater Less e = refl
less_is_not_greater Equal e = refl
less_is_not_greater Greater e = absurd (cc)

differ : {A : Type 0} (b : Bool) → b ≡ true → b ≡ false → A
differ b e f = absurd (cc)

neither : (a b : Bool) → not a && not b ≡ true → (a ≡ false) × (b ≡ false)
neither true b e = absurd (cc)
neither false true e = absurd (cc)
neither false false e = (refl, refl)

both : (a b : Bool) → a ≡ false → b ≡ false → not a && not b ≡ true
both a b e f = ap (λ a. not a && not b) e ∙ ap not f

-- filters of lists with a first element
kept : {X : Type 0} (p : X → Bool) (x : X) (xs : List X) → p x ≡ true → filter p (x ∷ xs) ≡ x ∷ filter p xs
kept p x xs e = ap (λ b. cond b (x ∷ filter p xs) (filter p xs)) e

dropped : {X : Type 0} (p : X → Bool) (x : X) (xs : List X) → p x ≡ false → filter p (x ∷ xs) ≡ filter p xs
dropped p x xs e = ap (λ b. cond b (x ∷ filter p xs) (filter p xs)) e

heads : {X : Type 0} (x y : X) (xs ys : List X) → x ∷ xs ≡ y ∷ ys → x ≡ y
heads x y xs ys e = cc

tails : {X : Type 0} (x y : X) (xs ys : List X) → x ∷ xs ≡ y ∷ ys → xs ≡ ys
tails x y xs ys e = cc

cons_not_nil : {X : Type 0} {A : Type 0} (x : X) (xs : List X) → x ∷ xs ≡ [] → A
cons_not_nil x xs e = absurd (cc)

module _ {X : Type 0} {order : X → X → Ordering} (o : IsTotalOrder order) where
  abbrev AtMost : X → X → Type 0
  AtMost x y = is_gt (order x y) ≡ false

  abbrev tie : X → X → Bool
  tie = ties (λ x y. is_lt (order x y))

  flipped : (x y : X) → is_lt (order y x) ≡ is_gt (order x y)
  flipped x y = ap is_lt (o.antisymm y x) ∙ turned (order x y)
    where
      turned : (r : Ordering) → is_lt (ordering_reverse r) ≡ is_gt r
      turned Less = refl
      turned Equal = refl
      turned Greater = refl

  ties_at_most : (x y : X) → tie x y ≡ true → AtMost y x × AtMost x y
  ties_at_most x y e =
      let two = neither (is_lt (order x y)) (is_lt (order y x)) e in (sym (flipped y x) ∙ two.0, sym (flipped x y) ∙ two.1)

  ties_where : (x y : X) → AtMost y x → AtMost x y → tie x y ≡ true
  ties_where x y e f = both (is_lt (order x y)) (is_lt (order y x)) (flipped y x ∙ e) (flipped x y ∙ f)

  itself : (x : X) → tie x x ≡ true
  itself x = ties_where x x (ap is_gt (tied_itself o x)) (ap is_gt (tied_itself o x))

  -- no element is less than m
  abbrev From : X → List X → Type 0
  From m [] = Unit {0}
  From m (n ∷ ns) = AtMost m n × From m ns

  -- no element is less than those before it
  abbrev Rises : List X → Type 0
  Rises [] = Unit {0}
  Rises (n ∷ ns) = From n ns × Rises ns

  from_less : (l m : X) (ns : List X) → AtMost l m → From m ns → From l ns
  from_less l m [] h f = tt
  from_less l m (n ∷ ns) h f = (upto o l m n h f.0, from_less l m ns h f.1)

  from_placed : (m n : X) (ns : List X) → AtMost m n → From m ns → From m (placed order n ns)
  from_placed m n [] h f = (h, tt)
  from_placed m n (k ∷ ks) h f =
      cond_both (is_lt (order k n)) (k ∷ placed order n ks) (n ∷ k ∷ ks) (From m) (λ _. (f.0, from_placed m n ks h f.1)) (λ _. (h, f))

  rises_placed : (n : X) (ns : List X) → Rises ns → Rises (placed order n ns)
  rises_placed n [] r = (tt, tt)
  rises_placed n (k ∷ ks) r =
      cond_both (is_lt (order k n)) (k ∷ placed order n ks) (n ∷ k ∷ ks) Rises
      (λ e. (from_placed k n ks (less_is_not_greater (order k n) e) r.0, rises_placed n ks r.1))
      (λ e. let below : AtMost n k = sym (flipped n k) ∙ e in ((below, from_less n k ks below r.0), r))

  rises_in_order : (ns : List X) → Rises (in_order order ns)
  rises_in_order [] = tt
  rises_in_order (n ∷ ns) = rises_placed n (in_order order ns) (rises_in_order ns)

  behind_first : (x : X) (xs : List X) → IsSorted order (x ∷ xs) → IsSorted order xs
  behind_first x xs h k d low within =
      let next : suc k + 1 ≡ suc (k + 1) = omega arith in
      subst (λ j. is_lt (order (get_or (x ∷ xs) j d) (get_or (x ∷ xs) (suc k) d)) ≡ false) next (h (suc k) d (omega arith) (omega arith))

  rises_after : (xs : List X) → IsSorted order xs → Rises xs
  rises_after [] h = tt
  rises_after (x ∷ []) h = (tt, tt)
  rises_after (x ∷ y ∷ ys) h =
      let rest : Rises (y ∷ ys) = rises_after (y ∷ ys) (behind_first x (y ∷ ys) h) in
      let first : AtMost x y = sym (flipped x y) ∙ h 0 x (omega arith) (omega arith) in
      ((first, from_less x y ys first rest.0), rest)

  -- two elements of which one is less don't both tie with a third, so it doesn't matter which stands first
  swapped : (x n k : X) (l : List X) → is_lt (order k n) ≡ true → (a b : Bool) → tie x n ≡ a → tie x k ≡ b
      → cond b (k ∷ cond a (n ∷ l) l) (cond a (n ∷ l) l) ≡ cond a (n ∷ cond b (k ∷ l) l) (cond b (k ∷ l) l)
  swapped x n k l less true true e f =
      differ (is_gt (order n k)) (sym (flipped n k) ∙ less) (upto o n x k (ties_at_most x n e).0 (ties_at_most x k f).1)
  swapped x n k l less true false e f = refl
  swapped x n k l less false true e f = refl
  swapped x n k l less false false e f = refl

  -- an element that is put into a list stands before those with which it ties
  same_placed : (x n : X) (ns : List X) → filter (tie x) (placed order n ns) ≡ filter (tie x) (n ∷ ns)
  same_placed x n [] = refl
  same_placed x n (k ∷ ks) =
      cond_both (is_lt (order k n)) (k ∷ placed order n ks) (n ∷ k ∷ ks) (λ l. filter (tie x) l ≡ filter (tie x) (n ∷ k ∷ ks))
      (λ e. ap (λ l. cond (tie x k) (k ∷ l) l) (same_placed x n ks) ∙ swapped x n k (filter (tie x) ks) e (tie x n) (tie x k) refl refl)
      (λ _. refl)

  same_in_order : (x : X) (ns : List X) → filter (tie x) (in_order order ns) ≡ filter (tie x) ns
  same_in_order x [] = refl
  same_in_order x (n ∷ ns) =
      same_placed x n (in_order order ns) ∙ ap (λ l. cond (tie x n) (n ∷ l) l) (same_in_order x ns)

  -- what is at most all of a list is at most what ties with one of them
  found_at : (m x y : X) (ys : List X) (w : X) (ws : List X) → AtMost m y → (filter (tie x) ys ≡ w ∷ ws → AtMost m x)
      → filter (tie x) (y ∷ ys) ≡ w ∷ ws → (b : Bool) → tie x y ≡ b → AtMost m x
  found_at m x y ys w ws first rest e true with = upto o m y x first (ties_at_most x y with).0
  found_at m x y ys w ws first rest e false without = rest (sym (dropped (tie x) y ys without) ∙ e)

  found : (m x : X) (ys : List X) (w : X) (ws : List X) → From m ys → filter (tie x) ys ≡ w ∷ ws → AtMost m x
  found m x [] w ws f e = cons_not_nil w ws (sym e)
  found m x (y ∷ ys) w ws f e = found_at m x y ys w ws f.0 (found m x ys w ws f.1) e (tie x y) refl

  one_rising : (ys zs : List X) → Rises ys → Rises zs → ((x : X) → filter (tie x) ys ≡ filter (tie x) zs) → ys ≡ zs
  one_rising [] [] r s same = refl
  one_rising [] (z ∷ zs) r s same = cons_not_nil z (filter (tie z) zs) (sym (kept (tie z) z zs (itself z)) ∙ sym (same z))
  one_rising (y ∷ ys) [] r s same = cons_not_nil y (filter (tie y) ys) (sym (kept (tie y) y ys (itself y)) ∙ same y)
  one_rising (y ∷ ys) (z ∷ zs) r s same =
      let at_y = kept (tie y) y ys (itself y) in
      let at_z = kept (tie z) z zs (itself z) in
      let up : AtMost z y = found z y (z ∷ zs) y (filter (tie y) ys) (ap is_gt (tied_itself o z), s.0) (sym (same y) ∙ at_y) in
      let down : AtMost y z = found y z (y ∷ ys) z (filter (tie z) zs) (ap is_gt (tied_itself o y), r.0) (same z ∙ at_z) in
      let first : y ≡ z =
      heads y z (filter (tie y) ys) (filter (tie y) zs) (sym at_y ∙ same y ∙ kept (tie y) z zs (ties_where y z up down)) in
      let rest : (x : X) → filter (tie x) ys ≡ filter (tie x) zs = λ x. behind x first (tie x y) refl in
      ap (λ w. w ∷ ys) first ∙ ap (λ l. z ∷ l) (one_rising ys zs r.1 s.1 rest)
    where
      behind : (x : X) → y ≡ z → (b : Bool) → tie x y ≡ b → filter (tie x) ys ≡ filter (tie x) zs
      behind x first true with =
          tails y z (filter (tie x) ys) (filter (tie x) zs)
          (sym (kept (tie x) y ys with) ∙ same x ∙ kept (tie x) z zs (ap (tie x) (sym first) ∙ with))
      behind x first false without =
          sym (dropped (tie x) y ys without) ∙ same x ∙ dropped (tie x) z zs (ap (tie x) (sym first) ∙ without)

  -- a stable sort gives the list in order
  pub sort_gives : (ns ms : List X) → IsSorted order ms → IsStable order ns ms → ms ≡ in_order order ns
  sort_gives ns ms rises stable =
      one_rising ms (in_order order ns) (rises_after ms rises) (rises_in_order ns) (λ x. stable x ∙ sym (same_in_order x ns))
