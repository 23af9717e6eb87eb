-- Rising lists: what passes a test that passes nothing behind an element that doesn't is a front of the list.
use Rattle.std.proofs.Common.{◌≡◌, ℕ, zero, suc, ◌+◌, ◌-◌, ◌<◌, ◌≤◌, Bool, true, false, cond, not, ◌&&◌, List, [], ◌∷◌}
use Rattle.std.proofs.Common.{filter, length, take, drop, get_or, take_all, arith, refl, sym, ap, ◌∙◌}
use Rattle.std.specs.declared.cmp.Ordering.{Ordering}
use Rattle.std.specs.declared.cmp.Ordering.TheVariants.{Less, Equal, Greater}
use Rattle.std.specs.Ordering.{is_lt, is_gt, ordering_reverse}
use Rattle.std.specs.Cmp.{IsTotalOrder}
use Rattle.std.proofs.Math.Dec.{leb}
use Rattle.std.proofs.lemmas.Bool.{cond_both, leb-true, leb-false}
use Rattle.std.proofs.lemmas.Cmp.{upto}
use Rattle.std.proofs.lemmas.List.{drop-take, length-take-le}
use Rattle.plain_windows.specs.inner.Rising.{AtMost, From, Rises}

differ : {A : Type 0} (b : Bool) → b ≡ true → b ≡ false → A
differ b e f = absurd (cc)

module _ {X : Type 0} (c : X → X → Ordering) where
  module _ (p : X → Bool) (down : (y z : X) → AtMost c y z → p y ≡ false → p z ≡ false) where
    none_behind : (y : X) (zs : List X) → p y ≡ false → From c y zs → filter p zs ≡ []
    none_behind y [] e f = refl
    none_behind y (z ∷ zs) e f =
        ap (λ b. cond b (z ∷ filter p zs) (filter p zs)) (down y z f.0 e) ∙ none_behind y zs e f.1

    all_behind : (y : X) (zs : List X) → p y ≡ false → From c y zs → filter (λ z. not (p z)) zs ≡ zs
    all_behind y [] e f = refl
    all_behind y (z ∷ zs) e f =
        ap (λ b. cond (not b) (z ∷ filter (λ x. not (p x)) zs) (filter (λ x. not (p x)) zs)) (down y z f.0 e)
        ∙ ap (λ l. z ∷ l) (all_behind y zs e f.1)

    -- what passes is the front
    pub front_passes : (ys : List X) → Rises c ys → filter p ys ≡ take (length (filter p ys)) ys
    front_passes [] r = refl
    front_passes (y ∷ ys) r = pick (p y) refl (front_passes ys r.1)
      where
        pick : (b : Bool) → p y ≡ b → filter p ys ≡ take (length (filter p ys)) ys
            → cond b (y ∷ filter p ys) (filter p ys) ≡ take (length (cond b (y ∷ filter p ys) (filter p ys))) (y ∷ ys)
        pick true e h = ap (λ l. y ∷ l) h
        pick false e h = none_behind y ys e r.0 ∙ sym (ap (λ l. take (length l) (y ∷ ys)) (none_behind y ys e r.0))

    -- and what doesn't pass is what stands behind it
    pub rest_fails : (ys : List X) → Rises c ys → filter (λ y. not (p y)) ys ≡ drop (length (filter p ys)) ys
    rest_fails [] r = refl
    rest_fails (y ∷ ys) r = pick (p y) refl (rest_fails ys r.1)
      where
        pick : (b : Bool) → p y ≡ b → filter (λ z. not (p z)) ys ≡ drop (length (filter p ys)) ys
            → cond (not b) (y ∷ filter (λ z. not (p z)) ys) (filter (λ z. not (p z)) ys)
            ≡ drop (length (cond b (y ∷ filter p ys) (filter p ys))) (y ∷ ys)
        pick true e h = h
        pick false e h =
            ap (λ l. y ∷ l) (all_behind y ys e r.0) ∙ sym (ap (λ l. drop (length l) (y ∷ ys)) (none_behind y ys e r.0))

  module _ (o : IsTotalOrder c) where
    pub flipped : (x y : X) → is_lt (c y x) ≡ is_gt (c x y)
    flipped x y = ap is_lt (o.antisymm y x) ∙ turned (c x y)
      where
        turned : (r : Ordering) → is_lt (ordering_reverse r) ≡ is_gt r
        turned Less = refl
        turned Equal = refl
        turned Greater = refl

    -- the elements below one are a front
    pub below_is_down : (x y z : X) → AtMost c y z → is_lt (c y x) ≡ false → is_lt (c z x) ≡ false
    below_is_down x y z h e = flipped x z ∙ upto o x y z (sym (flipped x y) ∙ e) h

    -- and so are those that it isn't below
    pub through_is_down : (x y z : X) → AtMost c y z → not (is_lt (c x y)) ≡ false → not (is_lt (c x z)) ≡ false
    through_is_down x y z h e = ap not (either (is_lt (c x z)) refl)
      where
        truth : (b : Bool) → not b ≡ false → b ≡ true
        truth true f = refl
        truth false f = absurd (cc)

        either : (b : Bool) → is_lt (c x z) ≡ b → b ≡ true
        either true f = refl
        either false f = sym (sym (truth (is_lt (c x y)) e) ∙ flipped y x ∙ upto o y z x h (sym (flipped z x) ∙ f))

take_none : {X : Type 0} (t : ℕ) (l : List X) → l ≡ [] → take t l ≡ []
take_none zero l e = refl
take_none (suc t) l e = ap (take (suc t)) e

filter_both : {X : Type 0} (a b : X → Bool) (ys : List X) → filter (λ y. a y && b y) ys ≡ filter a (filter b ys)
filter_both a b [] = refl
filter_both a b (y ∷ ys) = pick (b y) (filter_both a b ys)
  where
    kept : (u : Bool) → filter (λ z. a z && b z) ys ≡ filter a (filter b ys)
        → cond (u && true) (y ∷ filter (λ z. a z && b z) ys) (filter (λ z. a z && b z) ys)
        ≡ cond u (y ∷ filter a (filter b ys)) (filter a (filter b ys))
    kept true h = ap (λ l. y ∷ l) h
    kept false h = h

    left_out : (u : Bool) → filter (λ z. a z && b z) ys ≡ filter a (filter b ys)
        → cond (u && false) (y ∷ filter (λ z. a z && b z) ys) (filter (λ z. a z && b z) ys) ≡ filter a (filter b ys)
    left_out true h = h
    left_out false h = h

    pick : (v : Bool) → filter (λ z. a z && b z) ys ≡ filter a (filter b ys)
        → cond (a y && v) (y ∷ filter (λ z. a z && b z) ys) (filter (λ z. a z && b z) ys)
        ≡ filter a (cond v (y ∷ filter b ys) (filter b ys))
    pick true h = kept (a y) h
    pick false h = left_out (a y) h

module _ {X : Type 0} (c : X → X → Ordering) where
  from_take : (x : X) (t : ℕ) (ys : List X) → From c x ys → From c x (take t ys)
  from_take x zero ys f = tt
  from_take x (suc t) [] f = tt
  from_take x (suc t) (y ∷ ys) f = (f.0, from_take x t ys f.1)

  rises_take : (t : ℕ) (ys : List X) → Rises c ys → Rises c (take t ys)
  rises_take zero ys r = tt
  rises_take (suc t) [] r = tt
  rises_take (suc t) (y ∷ ys) r = (from_take y t ys r.0, rises_take t ys r.1)

  module _ (p : X → Bool) (down : (y z : X) → AtMost c y z → p y ≡ false → p z ≡ false) where
    fails_at : (y : X) (zs : List X) → p y ≡ false → From c y zs → (i : ℕ) (d : X) → i < length zs → p (get_or zs i d) ≡ false
    fails_at y [] e f i d l = absurd (omega (arith, l))
    fails_at y (z ∷ zs) e f zero d l = down y z f.0 e
    fails_at y (z ∷ zs) e f (suc i) d l = fails_at y zs e f.1 i d (omega (arith, l))

    -- an element that passes stands in the front, and one that doesn't stands behind it
    pub stands_in_front : (ys : List X) → Rises c ys → (i : ℕ) (d : X) → i < length ys → p (get_or ys i d) ≡ true → i < length (filter p ys)
    stands_in_front [] r i d l e = absurd (omega (arith, l))
    stands_in_front (y ∷ ys) r zero d l e =
        cond_both (p y) (y ∷ filter p ys) (filter p ys) (λ l. 0 < length l) (λ _. omega arith) (λ f. differ (p y) e f)
    stands_in_front (y ∷ ys) r (suc i) d l e =
        cond_both (p y) (y ∷ filter p ys) (filter p ys) (λ l. suc i < length l)
        (λ _. let later = stands_in_front ys r.1 i d (omega (arith, l)) e in omega (arith, later))
        (λ f. differ (p (get_or ys i d)) e (fails_at y ys f r.0 i d (omega (arith, l))))

    pub stands_behind : (ys : List X) → Rises c ys → (i : ℕ) (d : X) → i < length ys → p (get_or ys i d) ≡ false → length (filter p ys) ≤ i
    stands_behind [] r i d l e = absurd (omega (arith, l))
    stands_behind (y ∷ ys) r zero d l e =
        cond_both (p y) (y ∷ filter p ys) (filter p ys) (λ l. length l ≤ 0) (λ f. differ (p y) f e)
        (λ _. let none = ap length (none_behind c p down y ys e r.0) in omega (arith, none))
    stands_behind (y ∷ ys) r (suc i) d l e =
        let later = stands_behind ys r.1 i d (omega (arith, l)) e in
        cond_both (p y) (y ∷ filter p ys) (filter p ys) (λ l. length l ≤ suc i) (λ _. omega (arith, later)) (λ _. omega (arith, later))

    front_of_front : (t : ℕ) (ys : List X) → Rises c ys → filter p (take t ys) ≡ take t (filter p ys)
    front_of_front zero ys r = refl
    front_of_front (suc t) [] r = refl
    front_of_front (suc t) (y ∷ ys) r = pick (p y) refl (front_of_front t ys r.1)
      where
        pick : (b : Bool) → p y ≡ b → filter p (take t ys) ≡ take t (filter p ys)
            → cond b (y ∷ filter p (take t ys)) (filter p (take t ys)) ≡ take (suc t) (cond b (y ∷ filter p ys) (filter p ys))
        pick true e h = ap (λ l. y ∷ l) h
        pick false e h =
            let none = none_behind c p down y ys e r.0 in
            h ∙ take_none t (filter p ys) none ∙ sym (take_none (suc t) (filter p ys) none)

  -- what passes the one test and not the other stands between their fronts
  module _ (p q : X → Bool) (down : (y z : X) → AtMost c y z → p y ≡ false → p z ≡ false)
      (q_down : (y z : X) → AtMost c y z → q y ≡ false → q z ≡ false) (ys : List X) (r : Rises c ys) where
    abbrev from : ℕ
    from = length (filter p ys)

    abbrev to : ℕ
    to = length (filter q ys)

    wide_enough : from ≤ to → drop (length (take to (filter p ys))) (take to ys) ≡ take (to - from) (drop from ys)
    wide_enough le =
        let parts : to ≡ from + (to - from) = omega (arith, le) in
        ap (λ l. drop (length l) (take to ys)) (take_all to (filter p ys) le)
        ∙ ap (λ k. drop from (take k ys)) parts ∙ drop-take from (to - from) ys

    too_short : to ≤ from → drop (length (take to (filter p ys))) (take to ys) ≡ take (to - from) (drop from ys)
    too_short less =
        let whole : to ≡ to + 0 = omega arith in
        let none : to - from ≡ 0 = omega (arith, less) in
        ap (λ k. drop k (take to ys)) (length-take-le to (filter p ys) less)
        ∙ ap (λ k. drop to (take k ys)) whole ∙ drop-take to 0 ys
        ∙ sym (ap (λ k. take k (drop from ys)) none)

    behind : drop (length (filter p (take to ys))) (take to ys) ≡ take (to - from) (drop from ys)
    behind = ap (λ l. drop (length l) (take to ys)) (front_of_front p down to ys r) ∙ either (leb from to) refl
      where
        either : (b : Bool) → leb from to ≡ b
            → drop (length (take to (filter p ys))) (take to ys) ≡ take (to - from) (drop from ys)
        either true e = wide_enough (leb-true from to e)
        either false e = let less : to < from = leb-false from to e in too_short (omega (arith, less))

    pub between : filter (λ y. not (p y) && q y) ys ≡ take (to - from) (drop from ys)
    between =
        filter_both (λ y. not (p y)) q ys ∙ ap (filter (λ y. not (p y))) (front_passes c q q_down ys r)
        ∙ rest_fails c p down (take to ys) (rises_take to ys r) ∙ behind
