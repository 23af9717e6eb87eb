-- Lists in order, and what stands before an element.
use Rattle.std.proofs.Common.{◌≡◌, Bool, true, false, cond, List, [], ◌∷◌, ◌++◌, map, filter, refl, sym, ap, ap₂, ◌∙◌}
use Rattle.std.specs.declared.cmp.Ordering.{Ordering}
use Rattle.std.specs.declared.cmp.Ordering.TheVariants.{Less, Equal, Greater}
use Rattle.std.specs.Ordering.{is_lt, ordering_reverse}
use Rattle.std.specs.Cmp.{IsTotalOrder, tied_itself}
use Rattle.std.proofs.lemmas.Bool.{cond_both}
use Rattle.std.proofs.lemmas.List.Elements.{filter-append}
use Rattle.plain_orders.specs.Orders.{placed, in_order}
use Rattle.plain_orders.proofs.SortLemmas.{differ}

-- each element of a list has a property
abbrev pub Each : {X : Type 0} → (X → Type 0) → List X → Type 0
Each P [] = Unit {0}
Each P (x ∷ xs) = P x × Each P xs

pub each_kept : {X : Type 0} (P Q : X → Type 0) → ((x : X) → P x → Q x) → (xs : List X) → Each P xs → Each Q xs
each_kept P Q so [] e = tt
each_kept P Q so (x ∷ xs) e = (so x e.0, each_kept P Q so xs e.1)

each_placed : {X : Type 0} (c : X → X → Ordering) (P : X → Type 0) (x : X) (ys : List X) → P x → Each P ys → Each P (placed c x ys)
each_placed c P x [] h e = (h, tt)
each_placed c P x (y ∷ ys) h e =
    cond_both (is_lt (c y x)) (y ∷ placed c x ys) (x ∷ y ∷ ys) (Each P) (λ _. (e.0, each_placed c P x ys h e.1)) (λ _. (h, e))

pub each_in_order : {X : Type 0} (c : X → X → Ordering) (P : X → Type 0) (xs : List X) → Each P xs → Each P (in_order c xs)
each_in_order c P [] e = tt
each_in_order c P (x ∷ xs) e = each_placed c P x (in_order c xs) e.0 (each_in_order c P xs e.1)

-- lists that are compared alike are in order alike
module _ {X Y : Type 0} (c : X → X → Ordering) (d : Y → Y → Ordering) (f : X → Y) (P : X → Type 0)
    (agree : (a b : X) → P a → P b → d (f a) (f b) ≡ c a b) where
  map_placed : (x : X) (ys : List X) → P x → Each P ys → map f (placed c x ys) ≡ placed d (f x) (map f ys)
  map_placed x [] h e = refl
  map_placed x (y ∷ ys) h e =
      pick (is_lt (c y x)) (map_placed x ys h e.1)
      ∙ ap (λ r. cond (is_lt r) (f y ∷ placed d (f x) (map f ys)) (f x ∷ f y ∷ map f ys)) (sym (agree y x e.0 h))
    where
      pick : (b : Bool) → map f (placed c x ys) ≡ placed d (f x) (map f ys)
          → map f (cond b (y ∷ placed c x ys) (x ∷ y ∷ ys)) ≡ cond b (f y ∷ placed d (f x) (map f ys)) (f x ∷ f y ∷ map f ys)
      pick true h = ap (λ l. f y ∷ l) h
      pick false h = refl

  pub map_in_order : (xs : List X) → Each P xs → map f (in_order c xs) ≡ in_order d (map f xs)
  map_in_order [] e = refl
  map_in_order (x ∷ xs) e = map_placed x (in_order c xs) e.0 (each_in_order c P xs e.1) ∙ ap (placed d (f x)) (map_in_order xs e.1)

-- no two elements of a list tie
abbrev pub AreApart : {X : Type 0} → (X → X → Ordering) → List X → Type 0
AreApart c [] = Unit {0}
AreApart c (x ∷ xs) = Each (λ y. c x y ≡ Equal → ⊥) xs × AreApart c xs

-- each element is less than those behind it
abbrev pub Climbs : {X : Type 0} → (X → X → Ordering) → List X → Type 0
Climbs c [] = Unit {0}
Climbs c (x ∷ xs) = Each (λ y. c x y ≡ Less) xs × Climbs c xs

is_less : (r : Ordering) → is_lt r ≡ true → r ≡ Less
is_less Less e = refl
is_less Equal e = absurd (cc)
is_less Greater e = absurd (cc)

is_other : (r s : Ordering) → s ≡ ordering_reverse r → (r ≡ Equal → ⊥) → is_lt s ≡ false → r ≡ Less
is_other Less s e apart f = refl
is_other Equal s e apart f = absurd (apart refl)
is_other Greater s e apart f = differ (is_lt s) (ap is_lt e) f

append_nil : {X : Type 0} (l : List X) → l ++ [] ≡ l
append_nil [] = refl
append_nil (x ∷ l) = ap (λ l. x ∷ l) (append_nil l)

each_at : {X : Type 0} (P : X → Type 0) (xs : List X) (x : X) (ys : List X) → Each P (xs ++ x ∷ ys) → P x
each_at P [] x ys e = e.0
each_at P (y ∷ xs) x ys e = each_at P xs x ys e.1

module _ {X : Type 0} {c : X → X → Ordering} (o : IsTotalOrder c) where
  climbs_placed : (x : X) (ys : List X) → Each (λ y. c x y ≡ Equal → ⊥) ys → Climbs c ys → Climbs c (placed c x ys)
  climbs_placed x [] a h = (tt, tt)
  climbs_placed x (y ∷ ys) a h =
      cond_both (is_lt (c y x)) (y ∷ placed c x ys) (x ∷ y ∷ ys) (Climbs c)
      (λ e. (each_placed c (λ z. c y z ≡ Less) x ys (is_less (c y x) e) h.0, climbs_placed x ys a.1 h.1))
      (λ e. let below : c x y ≡ Less = is_other (c x y) (c y x) (o.antisymm y x) a.0 e in
      ((below, each_kept (λ z. c y z ≡ Less) (λ z. c x z ≡ Less) (λ z less. o.trans x y z below less) ys h.0), h))

  pub climbs_in_order : (xs : List X) → AreApart c xs → Climbs c (in_order c xs)
  climbs_in_order [] a = tt
  climbs_in_order (x ∷ xs) a = climbs_placed x (in_order c xs) (each_in_order c (λ y. c x y ≡ Equal → ⊥) xs a.0) (climbs_in_order xs a.1)

  all_below : (xs : List X) (x : X) (ys : List X) → Climbs c (xs ++ x ∷ ys) → Each (λ y. c y x ≡ Less) xs
  all_below [] x ys h = tt
  all_below (y ∷ xs) x ys h = (each_at (λ z. c y z ≡ Less) xs x ys h.0, all_below xs x ys h.1)

  all_above : (xs : List X) (x : X) (ys : List X) → Climbs c (xs ++ x ∷ ys) → Each (λ y. c x y ≡ Less) ys
  all_above [] x ys h = h.0
  all_above (y ∷ xs) x ys h = all_above xs x ys h.1

  module _ (q : X → Bool) (x : X) where
    abbrev before : X → Bool
    before y = is_lt (c y x)

    kept_below : (ys : List X) → Each (λ y. c y x ≡ Less) ys → filter before (filter q ys) ≡ filter q ys
    kept_below [] e = refl
    kept_below (y ∷ ys) e = pick (q y) (kept_below ys e.1)
      where
        pick : (b : Bool) → filter before (filter q ys) ≡ filter q ys
            → filter before (cond b (y ∷ filter q ys) (filter q ys)) ≡ cond b (y ∷ filter q ys) (filter q ys)
        pick true h = ap (λ r. cond (is_lt r) (y ∷ filter before (filter q ys)) (filter before (filter q ys))) e.0 ∙ ap (λ l. y ∷ l) h
        pick false h = h

    none_above : (ys : List X) → Each (λ y. is_lt (c y x) ≡ false) ys → filter before (filter q ys) ≡ []
    none_above [] e = refl
    none_above (y ∷ ys) e = pick (q y) (none_above ys e.1)
      where
        pick : (b : Bool) → filter before (filter q ys) ≡ [] → filter before (cond b (y ∷ filter q ys) (filter q ys)) ≡ []
        pick true h = ap (λ b. cond b (y ∷ filter before (filter q ys)) (filter before (filter q ys))) e.0 ∙ h
        pick false h = h

    above_is_not_before : (y : X) → c x y ≡ Less → is_lt (c y x) ≡ false
    above_is_not_before y less = ap is_lt (o.antisymm y x ∙ ap ordering_reverse less)

    -- of the elements that pass a test those before one that stands in the list are those that pass in front of it
    pub before_filtered : (xs ys : List X) → Climbs c (xs ++ x ∷ ys) → filter before (filter q (xs ++ x ∷ ys)) ≡ filter q xs
    before_filtered xs ys h =
        ap (filter before) (filter-append q xs (x ∷ ys))
        ∙ filter-append before (filter q xs) (filter q (x ∷ ys))
        ∙ ap₂ (λ a b. a ++ b) (kept_below xs (all_below xs x ys h))
        (none_above (x ∷ ys) (
          ap is_lt (tied_itself o x),
          each_kept (λ y. c x y ≡ Less) (λ y. is_lt (c y x) ≡ false) above_is_not_before ys (all_above xs x ys h),
        ))
        ∙ append_nil (filter q xs)
