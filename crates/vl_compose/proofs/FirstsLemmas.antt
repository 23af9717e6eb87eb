-- Groups that stand where their first stands.
use Rattle.std.proofs.Common.{◌≡◌, ℕ, Bool, true, false, ◌||◌, List, [], ◌∷◌, ◌++◌, map, cond, eqb, refl, sym, ap, ◌∙◌, subst}
use Rattle.std.specs.Prelude.{filter}
use Rattle.std.specs.List.{list_any}
use Rattle.std.proofs.lemmas.Bool.{eqb-true, eqb-false, eq-eqb, ne_eqb}
use Rattle.std.proofs.lemmas.List.Elements.{filter-append}
use Rattle.std.proofs.lemmas.List.{map-append}

-- ---- tests

pub or_left : (a b : Bool) → (a || b) ≡ false → a ≡ false
or_left false b e = refl
or_left true b e = absurd (cc)

pub or_right : (a b : Bool) → (a || b) ≡ false → b ≡ false
or_right false b e = e
or_right true b e = absurd (cc)

-- whether two numbers are the same, either way
pub same_either_way : (a b : ℕ) → eqb a b ≡ eqb b a
same_either_way a b = by (eqb a b) refl
  where
    by : (t : Bool) → eqb a b ≡ t → eqb a b ≡ eqb b a
    by true e = e ∙ sym (eq-eqb b a (sym (eqb-true a b e)))
    by false e = e ∙ sym (ne_eqb b a (λ same. eqb-false a b e (sym same)))

-- ---- filters

filter_cond : {X : Type 0} (q : X → Bool) (a : Bool) (x : X) (ys : List X) →
    filter q (cond a (x ∷ ys) ys) ≡ cond a (cond (q x) (x ∷ filter q ys) (filter q ys)) (filter q ys)
filter_cond q true x ys = refl
filter_cond q false x ys = refl

swapped : {A : Type 0} (a b : Bool) (u v : A) → cond a (cond b u v) v ≡ cond b (cond a u v) v
swapped true true u v = refl
swapped true false u v = refl
swapped false true u v = refl
swapped false false u v = refl

-- two filters in either order
filter_swap : {X : Type 0} (p q : X → Bool) (xs : List X) → filter q (filter p xs) ≡ filter p (filter q xs)
filter_swap p q [] = refl
filter_swap p q (x ∷ xs) =
    filter_cond q (p x) x (filter p xs)
    ∙ swapped (p x) (q x) (x ∷ filter q (filter p xs)) (filter q (filter p xs))
    ∙ (λ i. cond (q x) (cond (p x) (x ∷ filter_swap p q xs i) (filter_swap p q xs i)) (filter_swap p q xs i))
    ∙ sym (filter_cond p (q x) x (filter q xs))

under : {A : Type 0} (a b c : Bool) (u v : A) → (a ≡ true → b ≡ c) → cond a (cond b u v) v ≡ cond a (cond c u v) v
under true b c u v same = ap (λ t. cond t u v) (same refl)
under false b c u v same = refl

-- two filters that agree where a third lets pass
filter_under : {X : Type 0} (p q r : X → Bool) (xs : List X) → ((x : X) → r x ≡ true → p x ≡ q x) →
    filter p (filter r xs) ≡ filter q (filter r xs)
filter_under p q r [] same = refl
filter_under p q r (x ∷ xs) same =
    filter_cond p (r x) x (filter r xs)
    ∙ under (r x) (p x) (q x) (x ∷ filter p (filter r xs)) (filter p (filter r xs)) (same x)
    ∙ (λ i. cond (r x) (cond (q x) (x ∷ filter_under p q r xs same i) (filter_under p q r xs same i)) (filter_under p q r xs same i))
    ∙ sym (filter_cond q (r x) x (filter r xs))

map_cond : {X Y : Type 0} (f : X → Y) (a : Bool) (x : X) (ys : List X) → map f (cond a (x ∷ ys) ys) ≡ cond a (f x ∷ map f ys) (map f ys)
map_cond f true x ys = refl
map_cond f false x ys = refl

-- a filter behind a map
pub filter_behind_map : {X Y : Type 0} (f : X → Y) (q : Y → Bool) (xs : List X) → filter q (map f xs) ≡ map f (filter (λ x. q (f x)) xs)
filter_behind_map f q [] = refl
filter_behind_map f q (x ∷ xs) =
    (λ i. cond (q (f x)) (f x ∷ filter_behind_map f q xs i) (filter_behind_map f q xs i))
    ∙ sym (map_cond f (q (f x)) x (filter (λ x. q (f x)) xs))

-- whether one of some parts passes
any_parts : {X : Type 0} (p : X → Bool) (xs ys : List X) → list_any p xs ≡ false → list_any p (xs ++ ys) ≡ list_any p ys
any_parts p [] ys e = refl
any_parts p (x ∷ xs) ys e = (λ i. or_left (p x) (list_any p xs) e i || list_any p (xs ++ ys)) ∙ any_parts p xs ys (or_right (p x) (list_any p xs) e)

any_here : {X : Type 0} (p : X → Bool) (front back : List X) (x : X) → p x ≡ true → list_any p (front ++ x ∷ back) ≡ true
any_here p [] back x e = λ i. e i || list_any p back
any_here p (y ∷ front) back x e = always (p y) (list_any p (front ++ x ∷ back)) (any_here p front back x e)
  where
    always : (a b : Bool) → b ≡ true → (a || b) ≡ true
    always true b e = refl
    always false b e = e

none_here : {X : Type 0} (p : X → Bool) (front back : List X) (x : X) → list_any p (front ++ x ∷ back) ≡ false → p x ≡ false
none_here p [] back x e = or_left (p x) (list_any p back) e
none_here p (y ∷ front) back x e = none_here p front back x (or_right (p y) (list_any p (front ++ x ∷ back)) e)

-- the first that passes, where one does
pub record First {X : Type 0} (r : X → Bool) (xs : List X) : Type 0 where
  pub first : X
  pub others : List X
  pub are : filter r xs ≡ first ∷ others
  pub passes : r first ≡ true

first_or : {X : Type 0} (r : X → Bool) (x : X) (xs : List X) (a : Bool) → r x ≡ a → list_any r (x ∷ xs) ≡ true →
    (list_any r xs ≡ true → First r xs) → First r (x ∷ xs)
first_or r x xs true e any next = record {
  first = x;
  others = filter r xs;
  are = λ i. cond (e i) (x ∷ filter r xs) (filter r xs);
  passes = e;
}
first_or r x xs false e any next =
    let found = next ((λ i. sym e i || list_any r xs) ∙ any) in
    record {
      first = found.first;
      others = found.others;
      are = (λ i. cond (e i) (x ∷ filter r xs) (filter r xs)) ∙ found.are;
      passes = found.passes;
    }

first_passing : {X : Type 0} (r : X → Bool) (xs : List X) → list_any r xs ≡ true → First r xs
first_passing r [] e = absurd (cc)
first_passing r (x ∷ xs) e = first_or r x xs (r x) refl e (first_passing r xs)

-- ---- numbers that differ

-- no number stands twice
abbrev pub Apart : List ℕ → Type 0
Apart [] = Unit {0}
Apart (n ∷ ns) = (list_any (λ m. eqb m n) ns ≡ false) × Apart ns

any_cond : {X : Type 0} (f : X → ℕ) (p : ℕ → Bool) (a : Bool) (x : X) (ys : List X) →
    list_any p (map f (cond a (x ∷ ys) ys)) ≡ cond a (p (f x) || list_any p (map f ys)) (list_any p (map f ys))
any_cond f p true x ys = refl
any_cond f p false x ys = refl

quiet : (a b c : Bool) → b ≡ false → c ≡ false → cond a (b || c) c ≡ false
quiet true b c eb ec = λ i. eb i || ec i
quiet false b c eb ec = ec

heard : (a b c : Bool) → b ≡ true → c ≡ false → cond a (b || c) c ≡ a
heard true b c eb ec = λ i. eb i || c
heard false b c eb ec = ec

-- what stands nowhere stands in no part
none_kept : {X : Type 0} (f : X → ℕ) (p : ℕ → Bool) (r : X → Bool) (xs : List X) → list_any p (map f xs) ≡ false →
    list_any p (map f (filter r xs)) ≡ false
none_kept f p r [] e = refl
none_kept f p r (x ∷ xs) e =
    any_cond f p (r x) x (filter r xs)
    ∙ quiet (r x) (p (f x)) (list_any p (map f (filter r xs))) (or_left (p (f x)) (list_any p (map f xs)) e)
    (none_kept f p r xs (or_right (p (f x)) (list_any p (map f xs)) e))

apart_cond : {X : Type 0} (f : X → ℕ) (a : Bool) (x : X) (ys : List X) → list_any (λ m. eqb m (f x)) (map f ys) ≡ false → Apart (map f ys) →
    Apart (map f (cond a (x ∷ ys) ys))
apart_cond f true x ys none apart = (none, apart)
apart_cond f false x ys none apart = apart

-- so do the numbers of a part
pub apart_kept : {X : Type 0} (f : X → ℕ) (r : X → Bool) (xs : List X) → Apart (map f xs) → Apart (map f (filter r xs))
apart_kept f r [] apart = tt
apart_kept f r (x ∷ xs) apart =
    apart_cond f (r x) x (filter r xs) (none_kept f (λ m. eqb m (f x)) r xs apart.0) (apart_kept f r xs apart.1)

-- no number before one, and none behind it, is the same
none_before : {X : Type 0} (f : X → ℕ) (front back : List X) (x : X) → Apart (map f (front ++ x ∷ back)) →
    list_any (λ m. eqb m (f x)) (map f front) ≡ false
none_before f [] back x apart = refl
none_before f (y ∷ front) back x apart =
    let here = none_here (λ m. eqb m (f y)) (map f front) (map f back) (f x)
    (ap (list_any (λ m. eqb m (f y))) (sym (map-append f front (x ∷ back))) ∙ apart.0) in
    (λ i. (same_either_way (f y) (f x) ∙ here) i || none_before f front back x apart.1 i)

none_after : {X : Type 0} (f : X → ℕ) (front back : List X) (x : X) → Apart (map f (front ++ x ∷ back)) →
    list_any (λ m. eqb m (f x)) (map f back) ≡ false
none_after f [] back x apart = apart.0
none_after f (y ∷ front) back x apart = none_after f front back x apart.1

-- ---- groups

-- whether a number comes first
abbrev pub comes_first : ℕ → List ℕ → Bool
comes_first n [] = false
comes_first n (first ∷ others) = eqb first n

none_same : {X : Type 0} (f : X → ℕ) (n : ℕ) (xs : List X) → list_any (λ m. eqb m n) (map f xs) ≡ false → filter (λ x. eqb n (f x)) xs ≡ []
none_same f n [] e = refl
none_same f n (x ∷ xs) e =
    (λ i. cond ((same_either_way n (f x) ∙ or_left (eqb (f x) n) (list_any (λ m. eqb m n) (map f xs)) e) i)
    (x ∷ none_same f n xs (or_right (eqb (f x) n) (list_any (λ m. eqb m n) (map f xs)) e) i)
    (none_same f n xs (or_right (eqb (f x) n) (list_any (λ m. eqb m n) (map f xs)) e) i))

-- of some the first alone has the number that comes first
first_alone : {X : Type 0} (f : X → ℕ) (x : X) (xs : List X) → Apart (map f (x ∷ xs)) →
    filter (λ y. comes_first (f y) (map f (x ∷ xs))) (x ∷ xs) ≡ x ∷ []
first_alone f x xs apart =
    (λ i. cond (eq-eqb (f x) (f x) refl i) (x ∷ none_same f (f x) xs apart.0 i) (none_same f (f x) xs apart.0 i))

module _ {X : Type 0} (number home : X → ℕ) where
  -- the numbers of those that have this home
  abbrev pub at : List X → ℕ → List ℕ
  at all h = map number (filter (λ x. eqb (home x) h) all)

  -- whether one is the first with its home
  abbrev pub leader : List X → X → Bool
  leader all x = comes_first (number x) (at all (home x))

  at_parts : (xs ys : List X) (h : ℕ) → at (xs ++ ys) h ≡ at xs h ++ at ys h
  at_parts xs ys h =
      ap (map number) (filter-append (λ x. eqb (home x) h) xs ys)
      ∙ map-append number (filter (λ x. eqb (home x) h) xs) (filter (λ x. eqb (home x) h) ys)

  -- a number stands under its home alone
  under_its_home : (front back : List X) (x : X) (h : ℕ) → Apart (map number (front ++ x ∷ back)) →
      list_any (λ m. eqb m (number x)) (at (front ++ x ∷ back) h) ≡ eqb (home x) h
  under_its_home front back x h apart =
      ap (list_any (λ m. eqb m (number x))) (at_parts front (x ∷ back) h)
      ∙ any_parts (λ m. eqb m (number x)) (at front h) (at (x ∷ back) h)
      (none_kept number (λ m. eqb m (number x)) (λ y. eqb (home y) h) front (none_before number front back x apart))
      ∙ any_cond number (λ m. eqb m (number x)) (eqb (home x) h) x (filter (λ y. eqb (home y) h) back)
      ∙ heard (eqb (home x) h) (eqb (number x) (number x)) (list_any (λ m. eqb m (number x)) (at back h)) (eq-eqb (number x) (number x) refl)
      (none_kept number (λ m. eqb m (number x)) (λ y. eqb (home y) h) back (none_after number front back x apart))

  -- the only leader of those with the home of one
  pub record Leads (all : List X) (x : X) : Type 0 where
    pub first : X
    pub alone : filter (λ y. list_any (λ m. eqb m (number x)) (at all (home y))) (filter (leader all) all) ≡ first ∷ []
    pub home_is : home first ≡ home x

  pub one_leads : (front back : List X) (x : X) → Apart (map number (front ++ x ∷ back)) → Leads (front ++ x ∷ back) x
  one_leads front back x apart =
      let all : List X = front ++ x ∷ back in
      let near : X → Bool = λ y. eqb (home y) (home x) in
      let found = first_passing near all (any_here near front back x (eq-eqb (home x) (home x) refl)) in
      let told : (y : X) → list_any (λ m. eqb m (number x)) (at all (home y)) ≡ near y =
      λ y. under_its_home front back x (home y) apart ∙ same_either_way (home x) (home y) in
      record {
        first = found.first;
        alone = filter_swap (leader all) (λ y. list_any (λ m. eqb m (number x)) (at all (home y))) all
            ∙ (λ i. filter (leader all) (filter (λ y. told y i) all))
            ∙ filter_under (leader all) (λ y. comes_first (number y) (map number (filter near all))) near all
            (λ y e. ap (λ h. comes_first (number y) (at all h)) (eqb-true (home y) (home x) e))
            ∙ (λ i. filter (λ y. comes_first (number y) (map number (found.are i))) (found.are i))
            ∙ first_alone number found.first found.others (subst (λ ys. Apart (map number ys)) found.are (apart_kept number near all apart));
        home_is = eqb-true (home found.first) (home x) found.passes;
      }
