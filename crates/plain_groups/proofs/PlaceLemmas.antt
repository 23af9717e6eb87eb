-- Keys, and the first places at which they stand.
use Rattle.std.proofs.Common.{◌≡◌, ◌≢◌, ℕ, ◌+◌, ◌<◌, ◌≤◌, zero, suc, Bool, true, false, cond, not, ◌&&◌, ◌||◌, List, [], ◌∷◌, ◌++◌, length}
use Rattle.std.proofs.Common.{map, take, drop, get_or, Option, Some, None, unwrap_or, eqb, arith, refl, sym, ap, ap₂, ◌∙◌, add-one}
use Rattle.std.proofs.Common.{append_assoc}
use Rattle.std.specs.declared.cmp.Ordering.{Ordering}
use Rattle.std.specs.declared.cmp.Ordering.TheVariants.{Less, Equal, Greater}
use Rattle.std.specs.Ordering.{is_eq, ordering_then}
use Rattle.std.specs.Option.{option_or}
use Rattle.std.specs.List.{list_any, position_from}
use Rattle.std.specs.Cmp.{tied_itself}
use Rattle.std.specs.Cmp.Lexicographic.{slice_cmp}
use Rattle.std.specs.FinMap.{slice_cmp-IsAntisymmetric}
use Rattle.std.proofs.lemmas.Bool.{eqb-true, eqb-false}
use Rattle.std.proofs.lemmas.List.{drop_more, map-append, length-map, length-take, take-append-drop}
use Rattle.std.proofs.Math.Seq.{take-suc}
use Rattle.cell_value.specs.declared.cell.Cell.{Cell}
use Rattle.cell_value.specs.Cell.{cell_cmp, same_cells}
use Rattle.cell_value.specs.Datum.{CellAt}
use Rattle.cell_value.specs.inner.CellOrder.{cell_cmp_total, only_equal_cells_tie}
use Rattle.plain_groups.specs.Groups.{alike, firsts_behind}
use Rattle.plain_groups.specs.inner.Places.{Places, place_at, same_keys, first_place, leader_of}

pub by_cases : {P : Type 0} (b : Bool) → (b ≡ true → P) → (b ≡ false → P) → P
by_cases true yes_ no_ = yes_ refl
by_cases false yes_ no_ = no_ refl

is_equal : (r : Ordering) → is_eq r ≡ true → r ≡ Equal
is_equal Less e = absurd (cc)
is_equal Equal e = refl
is_equal Greater e = absurd (cc)

-- two keys that are the same are equal
pub same_are_equal : (a b : List Cell) → same_keys a b ≡ true → a ≡ b
same_are_equal a b e = slice_cmp-IsAntisymmetric only_equal_cells_tie a b (is_equal (slice_cmp cell_cmp a b) e)

pub same_itself : (a : List Cell) → same_keys a a ≡ true
same_itself [] = refl
same_itself (x ∷ xs) = ap (λ r. is_eq (ordering_then r (slice_cmp cell_cmp xs xs))) (tied_itself cell_cmp_total x) ∙ same_itself xs

both_tie : (r s : Ordering) → is_eq (ordering_then r s) ≡ (is_eq r && is_eq s)
both_tie Less s = refl
both_tie Equal s = refl
both_tie Greater s = refl

-- rows are alike where their keys are the same
pub alike_keys : {X : Type 0} (cells : X → CellAt) (fields : List (List ℕ)) (x y : X)
    → same_keys (map (cells x) fields) (map (cells y) fields) ≡ alike cells fields x y
alike_keys cells [] x y = refl
alike_keys cells (field ∷ fields) x y =
    both_tie (cell_cmp (cells x field) (cells y field)) (slice_cmp cell_cmp (map (cells x) fields) (map (cells y) fields))
    ∙ ap (λ b. same_cells (cells x field) (cells y field) && b) (alike_keys cells fields x y)

-- a cell alone is a key
pub lone_keys : (x y : Cell) → same_keys (x ∷ []) (y ∷ []) ≡ same_cells x y
lone_keys x y = then_equal (cell_cmp x y)
  where
    then_equal : (r : Ordering) → is_eq (ordering_then r Equal) ≡ is_eq r
    then_equal Less = refl
    then_equal Equal = refl
    then_equal Greater = refl

or_none : {X : Type 0} (o : Option X) → option_or o None ≡ o
or_none None = refl
or_none (Some x) = refl

-- the map of places stays where the key has one
pub found_stays : (places : Places) (key q : List Cell) (at place : ℕ) → place_at places key ≡ Some place
    → place_at places q ≡ option_or (place_at places q) (cond (same_keys key q) (Some at) None)
found_stays places key q at place e =
    by_cases (same_keys key q)
    (λ same. let there : place_at places q ≡ Some place = ap (place_at places) (sym (same_are_equal key q same)) ∙ e in
    there ∙ sym (ap (λ o. option_or o (cond (same_keys key q) (Some at) None)) there))
    (λ other. sym (ap (λ b. option_or (place_at places q) (cond b (Some at) None)) other ∙ or_none (place_at places q)))

-- and has one more where it has none
pub found_more : (places : Places) (key q : List Cell) (at : ℕ) → place_at places key ≡ None
    → cond (same_keys key q) (Some at) (place_at places q) ≡ option_or (place_at places q) (cond (same_keys key q) (Some at) None)
found_more places key q at e =
    by_cases (same_keys key q)
    (λ same. let there : place_at places q ≡ None = ap (place_at places) (sym (same_are_equal key q same)) ∙ e in
    ap₂ (λ b o. cond b (Some at) o) same there ∙ sym (ap₂ (λ b o. option_or o (cond b (Some at) None)) same there))
    (λ other. ap (λ b. cond b (Some at) (place_at places q)) other
    ∙ sym (ap (λ b. option_or (place_at places q) (cond b (Some at) None)) other ∙ or_none (place_at places q)))

pub equal_itself : (n : ℕ) → eqb n n ≡ true
equal_itself n = by_cases (eqb n n) (λ h. h) (λ h. absurd (eqb-false n n h refl))

module _ {K : Type 0} (t : K → Bool) where
  -- one key more
  pub position_more : (i n : ℕ) (xs : List K) (x : K) → n ≡ i + length xs
      → position_from t i (xs ++ x ∷ []) ≡ option_or (position_from t i xs) (cond (t x) (Some n) None)
  position_more i n [] x e = ap (λ k. cond (t x) (Some k) None) (omega (arith, e))
  position_more i n (y ∷ ys) x e = pick (t y) (position_more (i + 1) n ys x (omega (arith, e)))
    where
      pick : (b : Bool) → position_from t (i + 1) (ys ++ x ∷ []) ≡ option_or (position_from t (i + 1) ys) (cond (t x) (Some n) None)
          → cond b (Some i) (position_from t (i + 1) (ys ++ x ∷ [])) ≡ option_or (cond b (Some i) (position_from t (i + 1) ys)) (cond (t x) (Some n) None)
      pick true h = refl
      pick false h = h

  -- the first place of a key that stands there
  pub position_there : (i n : ℕ) (xs : List K) (y : K) (ys : List K) → n ≡ i + length xs → t y ≡ true
      → position_from t i (xs ++ y ∷ ys) ≡ Some (unwrap_or (position_from t i xs) n)
  position_there i n [] y ys e h = ap (λ b. cond b (Some i) (position_from t (i + 1) ys)) h ∙ ap Some (omega (arith, e))
  position_there i n (x ∷ xs) y ys e h = pick (t x) (position_there (i + 1) n xs y ys (omega (arith, e)) h)
    where
      pick : (b : Bool) → position_from t (i + 1) (xs ++ y ∷ ys) ≡ Some (unwrap_or (position_from t (i + 1) xs) n)
          → cond b (Some i) (position_from t (i + 1) (xs ++ y ∷ ys)) ≡ Some (unwrap_or (cond b (Some i) (position_from t (i + 1) xs)) n)
      pick true h = refl
      pick false h = h

  pub position_at_most : (i n : ℕ) (xs : List K) → n ≡ i + length xs → unwrap_or (position_from t i xs) n ≤ n
  position_at_most i n [] e = omega arith
  position_at_most i n (x ∷ xs) e = pick (t x) (position_at_most (i + 1) n xs (omega (arith, e)))
    where
      pick : (b : Bool) → unwrap_or (position_from t (i + 1) xs) n ≤ n → unwrap_or (cond b (Some i) (position_from t (i + 1) xs)) n ≤ n
      pick true h = omega (arith, e)
      pick false h = h

  pub position_from_on : (i n : ℕ) (xs : List K) → i ≤ n → n ≡ i + length xs → i ≤ unwrap_or (position_from t i xs) n
  position_from_on i n [] l e = l
  position_from_on i n (x ∷ xs) l e = pick (t x) (position_from_on (i + 1) n xs (omega (arith, e)) (omega (arith, e)))
    where
      pick : (b : Bool) → i + 1 ≤ unwrap_or (position_from t (i + 1) xs) n → i ≤ unwrap_or (cond b (Some i) (position_from t (i + 1) xs)) n
      pick true h = omega arith
      pick false h = omega arith

  -- a key that doesn't pass isn't at the first place
  pub not_there : (i n : ℕ) (xs : List K) (y : K) (ys : List K) → n ≡ i + length (xs ++ y ∷ ys) → t y ≡ false
      → unwrap_or (position_from t i (xs ++ y ∷ ys)) n ≢ i + length xs
  not_there i n [] y ys e h =
      let on = position_from_on (i + 1) n ys (omega (arith, e)) (omega (arith, e)) in
      λ same. let same_ : unwrap_or (cond (t y) (Some i) (position_from t (i + 1) ys)) n ≡ i + 0 = same in
      absurd (omega (arith, on, sym (ap (λ b. unwrap_or (cond b (Some i) (position_from t (i + 1) ys)) n) h) ∙ same_))
  not_there i n (x ∷ xs) y ys e h = pick (t x) (not_there (i + 1) n xs y ys (omega (arith, e)) h)
    where
      pick : (b : Bool) → unwrap_or (position_from t (i + 1) (xs ++ y ∷ ys)) n ≢ (i + 1) + length xs
          → unwrap_or (cond b (Some i) (position_from t (i + 1) (xs ++ y ∷ ys))) n ≢ i + suc (length xs)
      pick true f = λ same. absurd (omega (arith, same))
      pick false f = λ same. f (omega (arith, same))

  -- what stands at the first place passes
  pub passes_there : (i n k : ℕ) (xs : List K) (d : K) → unwrap_or (position_from t i xs) n ≡ i + k
      → k < length xs → n ≡ i + length xs → t (get_or xs k d) ≡ true
  passes_there i n k [] d e below whole = absurd (omega arith)
  passes_there i n zero (x ∷ xs) d e below whole =
      by_cases (t x) (λ h. h)
      (λ h. absurd (omega (
        arith,
        position_from_on (i + 1) n xs (omega (arith, whole)) (omega (arith, whole)),
        sym (ap (λ b. unwrap_or (cond b (Some i) (position_from t (i + 1) xs)) n) h) ∙ e,
      )))
  passes_there i n (suc k) (x ∷ xs) d e below whole =
      by_cases (t x)
      (λ h. absurd (omega (arith, sym (ap (λ b. unwrap_or (cond b (Some i) (position_from t (i + 1) xs)) n) h) ∙ e)))
      (λ h. let later = sym (ap (λ b. unwrap_or (cond b (Some i) (position_from t (i + 1) xs)) n) h) ∙ e in
      passes_there (i + 1) n k xs d (later ∙ omega arith) (omega arith) (omega (arith, whole)))

  -- the place is past them all exactly where none passes
  pub position_past : (i n : ℕ) (xs : List K) → n ≡ i + length xs → eqb (unwrap_or (position_from t i xs) n) n ≡ not (list_any t xs)
  position_past i n [] e = equal_itself n
  position_past i n (x ∷ xs) e = pick (t x) (position_past (i + 1) n xs (omega (arith, e)))
    where
      pick : (b : Bool) → eqb (unwrap_or (position_from t (i + 1) xs) n) n ≡ not (list_any t xs)
          → eqb (unwrap_or (cond b (Some i) (position_from t (i + 1) xs)) n) n ≡ not (b || list_any t xs)
      pick true h = by_cases (eqb i n) (λ same. absurd (omega (arith, eqb-true i n same, e))) (λ other. other)
      pick false h = h

-- parts of a list around a place
module _ {X : Type 0} (xs : List X) (at : ℕ) (x : X) (within : at < length xs) (is : x ≡ get_or xs at x) where
  pub left_there : drop at xs ≡ x ∷ drop (at + 1) xs
  left_there = drop_more xs at x within ∙ ap (λ y. y ∷ drop (at + 1) xs) (sym is)

  pub halves : xs ≡ take at xs ++ x ∷ drop (at + 1) xs
  halves = sym (take-append-drop at xs) ∙ ap (λ l. take at xs ++ l) left_there

  pub one_taken : take (at + 1) xs ≡ take at xs ++ x ∷ []
  one_taken = ap (λ k. take k xs) (add-one at) ∙ take-suc xs at x within ∙ ap (λ z. take at xs ++ z ∷ []) (sym is)

  module _ (f : X → List Cell) where
    mapped : at ≡ 0 + length (map f (take at xs))
    mapped = omega (arith, length-map (take at xs) f, length-take at xs)

    -- what a map of places tells after one more
    pub places_more : (q : List Cell) (old new : Option ℕ) (key : List Cell) → key ≡ f x → old ≡ first_place (map f (take at xs)) q
        → new ≡ option_or old (cond (same_keys key q) (Some at) None) → new ≡ first_place (map f (take (at + 1) xs)) q
    places_more q old new key same e h =
        h ∙ ap₂ (λ o k. option_or o (cond (same_keys k q) (Some at) None)) e same
        ∙ sym (position_more (λ other. same_keys other q) 0 at (map f (take at xs)) (f x) mapped)
        ∙ ap (λ l. first_place l q) (sym (map-append f (take at xs) (x ∷ [])))
        ∙ ap (λ l. first_place (map f l) q) (sym one_taken)

    -- the place that is found leads
    pub leads : unwrap_or (first_place (map f (take at xs)) (f x)) at ≡ leader_of (map f xs) (f x)
    leads =
        sym (ap (λ l. leader_of (map f l) (f x)) halves
        ∙ ap (λ l. leader_of l (f x)) (map-append f (take at xs) (x ∷ drop (at + 1) xs))
        ∙ ap (λ o. unwrap_or o (length (map f (take at xs) ++ f x ∷ map f (drop (at + 1) xs))))
        (position_there (λ other. same_keys other (f x)) 0 at (map f (take at xs)) (f x) (map f (drop (at + 1) xs)) mapped (same_itself (f x))))

    pub leads_within : unwrap_or (first_place (map f (take at xs)) (f x)) at < length xs
    leads_within = omega (arith, position_at_most (λ other. same_keys other (f x)) 0 at (map f (take at xs)) mapped, within)

    module _ (like : X → X → Bool) (tells : (x y : X) → same_keys (f x) (f y) ≡ like x y) where
      any_seen : (l : List X) → list_any (λ other. same_keys other (f x)) (map f l) ≡ list_any (λ y. like y x) l
      any_seen [] = refl
      any_seen (y ∷ ys) = ap₂ (λ a b. a || b) (tells y x) (any_seen ys)

      -- an element is the first of its kind exactly where it leads itself
      pub leads_itself : eqb (unwrap_or (first_place (map f (take at xs)) (f x)) at) at ≡ not (list_any (λ y. like y x) (take at xs))
      leads_itself = position_past (λ other. same_keys other (f x)) 0 at (map f (take at xs)) mapped ∙ ap not (any_seen (take at xs))

      pub firsts_there : firsts_behind like (take at xs) (drop at xs)
          ≡ cond (eqb (unwrap_or (first_place (map f (take at xs)) (f x)) at) at)
          (x ∷ firsts_behind like (take (at + 1) xs) (drop (at + 1) xs)) (firsts_behind like (take (at + 1) xs) (drop (at + 1) xs))
      firsts_there =
          ap (firsts_behind like (take at xs)) left_there
          ∙ ap (λ l. cond (list_any (λ y. like y x) (take at xs)) (firsts_behind like l (drop (at + 1) xs))
          (x ∷ firsts_behind like l (drop (at + 1) xs))) (sym one_taken)
          ∙ other_way (list_any (λ y. like y x) (take at xs)) _ _
          ∙ ap (λ b. cond b (x ∷ firsts_behind like (take (at + 1) xs) (drop (at + 1) xs)) (firsts_behind like (take (at + 1) xs) (drop (at + 1) xs)))
          (sym leads_itself)
        where
          other_way : {A : Type 0} (b : Bool) (u v : A) → cond b u v ≡ cond (not b) v u
          other_way true u v = refl
          other_way false u v = refl

      module _ (place : ℕ) (found : place ≡ unwrap_or (first_place (map f (take at xs)) (f x)) at) where
        pub first_here : place ≡ at → firsts_behind like (take at xs) (drop at xs) ≡ x ∷ firsts_behind like (take (at + 1) xs) (drop (at + 1) xs)
        first_here e =
            firsts_there ∙ ap
            (λ b. cond b (x ∷ firsts_behind like (take (at + 1) xs) (drop (at + 1) xs)) (firsts_behind like (take (at + 1) xs) (drop (at + 1) xs)))
            (ap (λ k. eqb k at) (sym found ∙ e) ∙ equal_itself at)

        pub not_first : (place ≡ at → ⊥) → firsts_behind like (take at xs) (drop at xs) ≡ firsts_behind like (take (at + 1) xs) (drop (at + 1) xs)
        not_first e =
            firsts_there ∙ ap
            (λ b. cond b (x ∷ firsts_behind like (take (at + 1) xs) (drop (at + 1) xs)) (firsts_behind like (take (at + 1) xs) (drop (at + 1) xs)))
            (by_cases (eqb (unwrap_or (first_place (map f (take at xs)) (f x)) at) at) (λ h. absurd (e (found ∙ eqb-true _ at h))) (λ h. h))

    pub leads_found : (key : List Cell) (old : Option ℕ) (place : ℕ) → key ≡ f x → old ≡ first_place (map f (take at xs)) key → place ≡ unwrap_or old at
        → place ≡ unwrap_or (first_place (map f (take at xs)) (f x)) at
    leads_found key old place same e h = h ∙ ap (λ o. unwrap_or o at) (e ∙ ap (first_place (map f (take at xs))) same)

    -- one leader more
    pub leader_more : (out new whole : List ℕ) (place : ℕ) → place ≡ unwrap_or (first_place (map f (take at xs)) (f x)) at → new ≡ out ++ place ∷ []
        → out ++ map (leader_of (map f xs)) (map f (drop at xs)) ≡ whole → new ++ map (leader_of (map f xs)) (map f (drop (at + 1) xs)) ≡ whole
    leader_more out new whole place e pushed h =
        ap (λ l. l ++ map (leader_of (map f xs)) (map f (drop (at + 1) xs))) pushed
        ∙ append_assoc out (place ∷ []) (map (leader_of (map f xs)) (map f (drop (at + 1) xs)))
        ∙ ap (λ k. out ++ k ∷ map (leader_of (map f xs)) (map f (drop (at + 1) xs))) (e ∙ leads)
        ∙ ap (λ l. out ++ map (leader_of (map f xs)) (map f l)) (sym left_there)
        ∙ h
