-- Of two rising lists with the same elements each is the other.
use Rattle.std.proofs.Common.{◌≡◌, ◌⊎◌, inl, inr, ⊎_elim, List, [], ◌∷◌, ◌++◌, refl, sym, ap, ap₂, ◌∙◌, subst}
use Rattle.std.specs.Ordering.{ordering_reverse}
use Rattle.std.specs.declared.cmp.Ordering.{Ordering}
use Rattle.std.specs.declared.cmp.Ordering.TheVariants.{Less, Equal, Greater}
use Rattle.std.specs.Cmp.{IsTotalOrder}
use Rattle.tick_kit.specs.Domains.{placed_in, ascending}

by_ordering : {P : Type 0} (o : Ordering) → (o ≡ Less → P) → (o ≡ Equal → P) → (o ≡ Greater → P) → P
by_ordering Less less same more = less refl
by_ordering Equal less same more = same refl
by_ordering Greater less same more = more refl

-- an element is in a list
abbrev pub Has : {X : Type 0} → List X → X → Type 0
Has [] z = ⊥
Has (x ∷ xs) z = (x ≡ z) ⊎ Has xs z

-- each element is before those behind it
abbrev pub Rises : {X : Type 0} → (X → X → Type 0) → List X → Type 0
Rises {X} Before [] = Unit {0}
Rises {X} Before (x ∷ xs) = ((z : X) → Has xs z → Before x z) × Rises Before xs

module _ {X : Type 0} where
  pub has_left : (xs ys : List X) (z : X) → Has xs z → Has (xs ++ ys) z
  has_left [] ys z h = absurd h
  has_left (x ∷ xs) ys z h = ⊎_elim (λ is. inl is) (λ later. inr (has_left xs ys z later)) h

  pub has_right : (xs ys : List X) (z : X) → Has ys z → Has (xs ++ ys) z
  has_right [] ys z h = h
  has_right (x ∷ xs) ys z h = inr (has_right xs ys z h)

  pub has_either : {P : Type 0} (xs ys : List X) (z : X) → Has (xs ++ ys) z → (Has xs z → P) → (Has ys z → P) → P
  has_either [] ys z h left right = right h
  has_either (x ∷ xs) ys z h left right = ⊎_elim (λ is. left (inl is)) (λ later. has_either xs ys z later (λ k. left (inr k)) right) h

  -- a list that rises in one sense rises in another that follows from it for its elements
  pub rises_too : (A B : X → X → Type 0) (xs : List X) → ((x y : X) → Has xs x → Has xs y → A x y → B x y) → Rises A xs → Rises B xs
  rises_too A B [] h k = tt
  rises_too A B (x ∷ xs) h (above, rest) =
      ((λ z there. h x z (inl refl) (inr there) (above z there)), rises_too A B xs (λ y z p q. h y z (inr p) (inr q)) rest)

  -- a list that rises and one behind it
  pub rises_on : (A : X → X → Type 0) (xs ys : List X) → Rises A xs → Rises A ys → ((x y : X) → Has xs x → Has ys y → A x y) → Rises A (xs ++ ys)
  rises_on A [] ys h k across = k
  rises_on A (x ∷ xs) ys (above, rest) k across =
      ((λ z there. has_either xs ys z there (above z) (across x z (inl refl))), rises_on A xs ys rest k (λ y z p q. across y z (inr p) q))

module _ {X : Type 0} (order : X → X → Ordering) (total : IsTotalOrder order) (exact : (x y : X) → order x y ≡ Equal → x ≡ y) where
  abbrev Below : X → X → Type 0
  Below x y = order x y ≡ Less

  -- ---- elements put into their places

  -- what becomes of an element and the first of the others, as they compare
  abbrev put : X → X → List X → Ordering → List X
  put c d ds Less = c ∷ d ∷ ds
  put c d ds Equal = d ∷ ds
  put c d ds Greater = d ∷ placed_in order c ds

  put_as : (c d : X) (ds : List X) → placed_in order c (d ∷ ds) ≡ put c d ds (order c d)
  put_as c d ds = by_ordering (order c d) (λ e. rw e refl) (λ e. rw e refl) (λ e. rw e refl)

  from_put : (c d : X) (ds : List X) (z : X) (o : Ordering) → (Has (placed_in order c ds) z → (c ≡ z) ⊎ Has ds z) → Has (put c d ds o) z
      → (c ≡ z) ⊎ ((d ≡ z) ⊎ Has ds z)
  from_put c d ds z Less behind h = h
  from_put c d ds z Equal behind h = inr h
  from_put c d ds z Greater behind h = ⊎_elim (λ is. inr (inl is)) (λ later. ⊎_elim (λ is. inl is) (λ k. inr (inr k)) (behind later)) h

  from_placed : (c : X) (ds : List X) (z : X) → Has (placed_in order c ds) z → (c ≡ z) ⊎ Has ds z
  from_placed c [] z h = h
  from_placed c (d ∷ ds) z h = from_put c d ds z (order c d) (from_placed c ds z) (subst (λ l. Has l z) (put_as c d ds) h)

  to_put : (c d : X) (ds : List X) (z : X) (o : Ordering) → order c d ≡ o → ((c ≡ z) ⊎ Has ds z → Has (placed_in order c ds) z)
      → (c ≡ z) ⊎ ((d ≡ z) ⊎ Has ds z) → Has (put c d ds o) z
  to_put c d ds z Less e behind h = h
  to_put c d ds z Equal e behind h = ⊎_elim (λ is. inl (sym (exact c d e) ∙ is)) (λ later. later) h
  to_put c d ds z Greater e behind h =
      ⊎_elim (λ is. inr (behind (inl is))) (λ later. ⊎_elim (λ is. inl is) (λ k. inr (behind (inr k))) later) h

  to_placed : (c : X) (ds : List X) (z : X) → (c ≡ z) ⊎ Has ds z → Has (placed_in order c ds) z
  to_placed c [] z h = h
  to_placed c (d ∷ ds) z h = subst (λ l. Has l z) (sym (put_as c d ds)) (to_put c d ds z (order c d) refl (to_placed c ds z) h)

  put_rises : (c d : X) (ds : List X) (o : Ordering) → order c d ≡ o → Rises Below (d ∷ ds) → Rises Below (placed_in order c ds) → Rises Below (put c d ds o)
  put_rises c d ds Less e (above, rest) behind =
      ((λ z there. ⊎_elim (λ is. subst (λ w. order c w ≡ Less) is e) (λ later. total.trans c d z e (above z later)) there), (above, rest))
  put_rises c d ds Equal e h behind = h
  put_rises c d ds Greater e (above, rest) behind =
      ((λ z there. ⊎_elim (λ is. subst (λ w. order d w ≡ Less) is (total.antisymm d c ∙ ap ordering_reverse e)) (above z) (from_placed c ds z there)), behind)

  placed_rises : (c : X) (ds : List X) → Rises Below ds → Rises Below (placed_in order c ds)
  placed_rises c [] h = ((λ z there. absurd there), tt)
  placed_rises c (d ∷ ds) h = subst (Rises Below) (sym (put_as c d ds)) (put_rises c d ds (order c d) refl h (placed_rises c ds h.1))

  -- ---- lists in order

  pub from_ascending : (xs : List X) (z : X) → Has (ascending order xs) z → Has xs z
  from_ascending [] z h = h
  from_ascending (x ∷ xs) z h = ⊎_elim (λ is. inl is) (λ later. inr (from_ascending xs z later)) (from_placed x (ascending order xs) z h)

  pub to_ascending : (xs : List X) (z : X) → Has xs z → Has (ascending order xs) z
  to_ascending [] z h = h
  to_ascending (x ∷ xs) z h = to_placed x (ascending order xs) z (⊎_elim (λ is. inl is) (λ later. inr (to_ascending xs z later)) h)

  pub ascending_rises : (xs : List X) → Rises Below (ascending order xs)
  ascending_rises [] = tt
  ascending_rises (x ∷ xs) = placed_rises x (ascending order xs) (ascending_rises xs)

  never_both : (x y : X) → order x y ≡ Less → order y x ≡ Less → ⊥
  never_both x y h k = by (order y x) (order x y) (total.antisymm x y) h k
    where
      by : (r s : Ordering) → s ≡ ordering_reverse r → s ≡ Less → r ≡ Less → ⊥
      by Less s e h k = absurd (cc)
      by Equal s e h k = absurd (cc)
      by Greater s e h k = absurd (cc)

  not_before_itself : (x : X) → order x x ≡ Less → ⊥
  not_before_itself x h = never_both x x h h

  module _ (x y : X) (xs ys : List X) (above : (z : X) → Has xs z → Below x z) (below : (z : X) → Has ys z → Below y z)
      (there : (z : X) → Has (x ∷ xs) z → Has (y ∷ ys) z) (back : (z : X) → Has (y ∷ ys) z → Has (x ∷ xs) z) where
    -- two that begin rising lists of the same elements are one
    heads : x ≡ y
    heads =
        ⊎_elim (λ is. sym is)
        (λ later. ⊎_elim (λ is. is) (λ other. absurd (never_both x y (above y other) (below x later))) (back y (inl refl)))
        (there x (inl refl))

    tail_there : (z : X) → Has xs z → Has ys z
    tail_there z h =
        ⊎_elim (λ is. absurd (not_before_itself x (subst (λ w. order x w ≡ Less) (sym is ∙ sym heads) (above z h)))) (λ later. later) (there z (inr h))

    tail_back : (z : X) → Has ys z → Has xs z
    tail_back z h =
        ⊎_elim (λ is. absurd (not_before_itself y (subst (λ w. order y w ≡ Less) (sym is ∙ heads) (below z h)))) (λ later. later) (back z (inr h))

  pub one_rising : (xs ys : List X) → Rises Below xs → Rises Below ys → ((z : X) → Has xs z → Has ys z) → ((z : X) → Has ys z → Has xs z) → xs ≡ ys
  one_rising [] [] h k there back = refl
  one_rising [] (y ∷ ys) h k there back = absurd (back y (inl refl))
  one_rising (x ∷ xs) [] h k there back = absurd (there x (inl refl))
  one_rising (x ∷ xs) (y ∷ ys) h k there back =
      ap₂ (λ z zs. z ∷ zs) (heads x y xs ys h.0 k.0 there back)
      (one_rising xs ys h.1 k.1 (tail_there x y xs ys h.0 k.0 there back) (tail_back x y xs ys h.0 k.0 there back))

  -- elements in order are a rising list that has all of them and no others
  pub ascending_is : (xs ys : List X) → Rises Below ys → ((z : X) → Has xs z → Has ys z) → ((z : X) → Has ys z → Has xs z) → ascending order xs ≡ ys
  ascending_is xs ys h there back =
      one_rising (ascending order xs) ys (ascending_rises xs) h (λ z k. there z (from_ascending xs z k)) (λ z k. to_ascending xs z (back z k))
