-- The rows of groups by their places.
use Rattle.std.proofs.Common.{◌≡◌, ℕ, ◌+◌, ◌<◌, ◌≤◌, suc, Bool, true, false, cond, not, List, [], ◌∷◌, ◌++◌, length, map, filter, take}
use Rattle.std.proofs.Common.{drop, get_or, set, eqb, All, arith, refl, sym, ap, ap₂, ◌∙◌, append_assoc, add-one}
use Rattle.std.specs.List.{list_any}
use Rattle.std.proofs.lemmas.Bool.{eqb-true, eqb-false}
use Rattle.std.proofs.lemmas.List.{drop_more, map-append, length-map, length-take, length-drop, length-set, length-append, get_or-set_same, get_or-set_other}
use Rattle.std.proofs.lemmas.List.Elements.{filter_agree, All-nil, All-cons}
use Rattle.std.proofs.Math.Seq.{take-suc, get_or-append_seam}
use Rattle.cell_value.specs.declared.cell.Cell.{Cell}
use Rattle.cell_value.specs.declared.state.Keyed.{Keyed}
use Rattle.plain_groups.specs.Groups.{firsts_behind}
use Rattle.plain_groups.specs.inner.Places.{same_keys, leader_of, members_from, heads_from, row_at, rows_at}
use Rattle.plain_groups.proofs.PlaceLemmas.{by_cases, equal_itself, same_are_equal, not_there, halves, one_taken, leads, leads_itself}

-- one leader more
members_more : (p i n : ℕ) (ls : List ℕ) (l : ℕ) → n ≡ i + length ls → members_from p i (ls ++ l ∷ []) ≡ members_from p i ls ++ cond (eqb l p) (n ∷ []) []
members_more p i n [] l e = ap (λ k. cond (eqb l p) (k ∷ []) []) (omega (arith, e))
members_more p i n (k ∷ ks) l e = pick (eqb k p) (members_more p (i + 1) n ks l (omega (arith, e)))
  where
    pick : (b : Bool) → members_from p (i + 1) (ks ++ l ∷ []) ≡ members_from p (i + 1) ks ++ cond (eqb l p) (n ∷ []) []
        → cond b (i ∷ members_from p (i + 1) (ks ++ l ∷ [])) (members_from p (i + 1) (ks ++ l ∷ []))
        ≡ cond b (i ∷ members_from p (i + 1) ks) (members_from p (i + 1) ks) ++ cond (eqb l p) (n ∷ []) []
    pick true h = ap (λ l. i ∷ l) h
    pick false h = h

append_nil : (l : List ℕ) → l ++ [] ≡ l
append_nil [] = refl
append_nil (x ∷ l) = ap (λ l. x ∷ l) (append_nil l)

taken_more : (ls : List ℕ) (at : ℕ) → at < length ls → take (at + 1) ls ≡ take at ls ++ get_or ls at 0 ∷ []
taken_more ls at below = ap (λ k. take k ls) (add-one at) ∙ take-suc ls at 0 below

pub length_added : (ls : List ℕ) (at : ℕ) (old new : List (List ℕ)) (l : ℕ) → length old ≡ length ls
    → new ≡ set old l (get_or old l [] ++ at ∷ []) → length new ≡ length ls
length_added ls at old new l e h = ap length h ∙ length-set old l (get_or old l [] ++ at ∷ []) ∙ e

pub member_added : (ls : List ℕ) (at : ℕ) (old new : List (List ℕ)) → at < length ls → get_or ls at 0 < length ls → length old ≡ length ls
    → new ≡ set old (get_or ls at 0) (get_or old (get_or ls at 0) [] ++ at ∷ [])
    → ((p : ℕ) → p < length ls → get_or old p [] ≡ members_from p 0 (take at ls))
    → (p : ℕ) → p < length ls → get_or new p [] ≡ members_from p 0 (take (at + 1) ls)
member_added ls at old new below lead same made was p within =
    let l : ℕ = get_or ls at 0 in
    let inside : l < length old = omega (arith, same, lead) in
    let more = members_more p 0 at (take at ls) l (omega (arith, length-take at ls)) in
    ap (λ lists. get_or lists p []) made
    ∙ by_cases (eqb l p)
    (λ e. let is : l ≡ p = eqb-true l p e in
    ap (λ k. get_or (set old l (get_or old l [] ++ at ∷ [])) k []) (sym is)
    ∙ get_or-set_same old l (get_or old l [] ++ at ∷ []) [] inside
    ∙ ap (λ k. get_or old k [] ++ at ∷ []) is
    ∙ ap (λ list. list ++ at ∷ []) (was p within)
    ∙ ap {A = Bool} {B = List ℕ} (λ b. members_from p 0 (take at ls) ++ cond b (at ∷ []) []) (sym e))
    (λ e. let none : members_from p 0 (take at ls) ++ cond (eqb l p) (at ∷ []) [] ≡ members_from p 0 (take at ls) =
    ap (λ b. members_from p 0 (take at ls) ++ cond b (at ∷ []) []) e ∙ append_nil (members_from p 0 (take at ls)) in
    get_or-set_other old l p (get_or old l [] ++ at ∷ []) [] (λ is. absurd (eqb-false l p e (sym is))) ∙ was p within ∙ sym none)
    ∙ sym more
    ∙ ap (members_from p 0) (sym (taken_more ls at below))

pub members_within : (p i n : ℕ) (ls : List ℕ) → i + length ls ≤ n → All (λ place. place < n) (members_from p i ls)
members_within p i n [] h = All-nil (λ place. place < n)
members_within p i n (l ∷ ls) h = pick (eqb l p) (members_within p (i + 1) n ls (omega (arith, h)))
  where
    pick : (b : Bool) → All (λ place. place < n) (members_from p (i + 1) ls)
        → All (λ place. place < n) (cond b (i ∷ members_from p (i + 1) ls) (members_from p (i + 1) ls))
    pick true all = All-cons (λ place. place < n) i (members_from p (i + 1) ls) (omega (arith, h)) all
    pick false all = all

pub few_members : (p i : ℕ) (ls : List ℕ) → length (members_from p i ls) ≤ length ls
few_members p i [] = omega arith
few_members p i (l ∷ ls) = pick (eqb l p) (few_members p (i + 1) ls)
  where
    pick : (b : Bool) → length (members_from p (i + 1) ls) ≤ length ls
        → length (cond b (i ∷ members_from p (i + 1) ls) (members_from p (i + 1) ls)) ≤ suc (length ls)
    pick true h = omega arith
    pick false h = omega arith

pub heads_within : (i n : ℕ) (ls : List ℕ) → i + length ls ≤ n → All (λ head. head < n) (heads_from i ls)
heads_within i n [] h = All-nil (λ head. head < n)
heads_within i n (l ∷ ls) h = pick (eqb l i) (heads_within (i + 1) n ls (omega (arith, h)))
  where
    pick : (b : Bool) → All (λ head. head < n) (heads_from (i + 1) ls) → All (λ head. head < n) (cond b (i ∷ heads_from (i + 1) ls) (heads_from (i + 1) ls))
    pick true all = All-cons (λ head. head < n) i (heads_from (i + 1) ls) (omega (arith, h)) all
    pick false all = all

-- the rows at the places of a leader are those that it leads
rows_led : (rows : List Keyed) (lead : Keyed → ℕ) (p i : ℕ) (before rest : List Keyed) → rows ≡ before ++ rest → i ≡ length before
    → rows_at rows (members_from p i (map lead rest)) ≡ filter (λ y. eqb (lead y) p) rest
rows_led rows lead p i before [] e at = refl
rows_led rows lead p i before (x ∷ rest) e at =
    pick (eqb (lead x) p) (rows_led rows lead p (i + 1) (before ++ x ∷ []) rest
    (e ∙ sym (append_assoc before (x ∷ []) rest)) (omega (arith, at, length-append before (x ∷ []))))
  where
    here : row_at rows i ≡ x
    here = ap₂ row_at e at ∙ get_or-append_seam before x rest _

    pick : (b : Bool) → rows_at rows (members_from p (i + 1) (map lead rest)) ≡ filter (λ y. eqb (lead y) p) rest
        → rows_at rows (cond b (i ∷ members_from p (i + 1) (map lead rest)) (members_from p (i + 1) (map lead rest)))
        ≡ cond b (x ∷ filter (λ y. eqb (lead y) p) rest) (filter (λ y. eqb (lead y) p) rest)
    pick true h = ap₂ (λ r rs. r ∷ rs) here h
    pick false h = h

module _ (f : Keyed → List Cell) (like : Keyed → Keyed → Bool) (tells : (x y : Keyed) → same_keys (f x) (f y) ≡ like x y) (rows : List Keyed) where
  abbrev pub lead : Keyed → ℕ
  lead x = leader_of (map f rows) (f x)

  module _ (i : ℕ) (x : Keyed) (below : i < length rows) (is : x ≡ get_or rows i x) where
    -- what a row leads is what is like it, where it leads itself
    leads_like : lead x ≡ i → (y : Keyed) → eqb (lead y) i ≡ like x y
    leads_like itself y =
        by_cases (same_keys (f x) (f y))
        (λ same. ap (λ key. eqb (leader_of (map f rows) key) i) (sym (same_are_equal (f x) (f y) same))
        ∙ ap (λ k. eqb k i) itself ∙ equal_itself i ∙ sym same ∙ tells x y)
        (λ other. by_cases (eqb (lead y) i)
        (λ e. absurd (apart other (eqb-true (lead y) i e)))
        (λ e. e ∙ sym other ∙ tells x y))
      where
        keys_are : map f rows ≡ map f (take i rows) ++ f x ∷ map f (drop (i + 1) rows)
        keys_are = ap (map f) (halves rows i x below is) ∙ map-append f (take i rows) (x ∷ drop (i + 1) rows)

        apart : same_keys (f x) (f y) ≡ false → lead y ≡ i → ⊥
        apart other e =
            not_there (λ other. same_keys other (f y)) 0 (length (map f (take i rows) ++ f x ∷ map f (drop (i + 1) rows)))
            (map f (take i rows)) (f x) (map f (drop (i + 1) rows)) (omega arith) other
            (sym (ap (λ keys. leader_of keys (f y)) keys_are) ∙ e ∙ omega (arith, length-map (take i rows) f, length-take i rows))

    pub group_led : lead x ≡ i → rows_at rows (members_from i 0 (map lead rows)) ≡ filter (like x) rows
    group_led itself = rows_led rows lead i 0 [] rows refl refl ∙ filter_agree (λ y. eqb (lead y) i) (like x) (leads_like itself) rows

  -- what is given at the heads is what is given of the first rows
  pub heads_first : {Y : Type 0} (G : ℕ → Y) (F : Keyed → Y) → ((i : ℕ) (x : Keyed) → i < length rows → x ≡ get_or rows i x → lead x ≡ i → G i ≡ F x)
      → (i : ℕ) (rest : List Keyed) → rest ≡ drop i rows → map G (heads_from i (map lead rest)) ≡ map F (firsts_behind like (take i rows) rest)
  heads_first G F agree i [] e = refl
  heads_first G F agree i (x ∷ rest) e =
      let below : i < length rows = omega (arith, ap length e, length-drop i rows) in
      let parts : x ∷ rest ≡ get_or rows i x ∷ drop (i + 1) rows = e ∙ drop_more rows i x below in
      let is : x ≡ get_or rows i x = cc in
      let others : rest ≡ drop (i + 1) rows = cc in
      let first : eqb (lead x) i ≡ not (list_any (λ y. like y x) (take i rows)) =
      ap (λ k. eqb k i) (sym (leads rows i x below is f)) ∙ leads_itself rows i x below is f like tells in
      let later : map G (heads_from (i + 1) (map lead rest)) ≡ map F (firsts_behind like (take i rows ++ x ∷ []) rest) =
      heads_first G F agree (i + 1) rest others ∙ ap (λ l. map F (firsts_behind like l rest)) (one_taken rows i x below is) in
      pick (eqb (lead x) i) (list_any (λ y. like y x) (take i rows)) first (λ e. agree i x below is (eqb-true (lead x) i e)) later refl
    where
      pick : (b any : Bool) → b ≡ not any → (eqb (lead x) i ≡ true → G i ≡ F x)
          → map G (heads_from (i + 1) (map lead rest)) ≡ map F (firsts_behind like (take i rows ++ x ∷ []) rest)
          → eqb (lead x) i ≡ b
          → map G (cond b (i ∷ heads_from (i + 1) (map lead rest)) (heads_from (i + 1) (map lead rest)))
          ≡ map F (cond any (firsts_behind like (take i rows ++ x ∷ []) rest) (x ∷ firsts_behind like (take i rows ++ x ∷ []) rest))
      pick true true e agree later at = absurd (cc)
      pick true false e agree later at = ap₂ (λ y ys. y ∷ ys) (agree at) later
      pick false true e agree later at = later
      pick false false e agree later at = absurd (cc)
