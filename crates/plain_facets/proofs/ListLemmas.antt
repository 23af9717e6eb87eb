-- Lists that are made element by element.
use Rattle.std.proofs.Common.{◌≡◌, ℕ, ◌+◌, ◌<◌, ◌≤◌, Bool, true, false, cond, ◌||◌, List, [], ◌∷◌, ◌++◌, map, flat_map, length, take, drop, get_or, set, eqb}
use Rattle.std.proofs.Common.{Option, Some, None, is_some, refl, sym, ap, ap₂, ◌∙◌, subst, arith, add-one}
use Rattle.std.specs.Borrow.{Bor}
use Rattle.std.specs.Option.{option_or}
use Rattle.std.specs.List.{list_any, position_from, enumerate_from}
use Rattle.std.proofs.lemmas.Bool.{eqb-true, eqb-false}
use Rattle.std.proofs.lemmas.List.{append_assoc, append-nil, drop_all, drop_more, map-append, length-take, get_or-set_same, get_or-set_other}
use Rattle.std.proofs.Math.Seq.{take-suc}
use Rattle.cell_value.specs.declared.cell.Cell.{Cell}
use Rattle.cell_value.specs.declared.state.Keyed.{Keyed}
use Rattle.cell_value.specs.State.{greatest_id}
use Rattle.plain_groups.specs.Groups.{firsts_behind}
use Rattle.plain_groups.proofs.PlaceLemmas.{by_cases, position_more, left_there, one_taken}
use Rattle.plain_facets.specs.Facets.{key_of, is_key, members_from, choices}
use Rattle.plain_facets.specs.Rows.{data_of, HaveIds}
use Rattle.plain_facets.specs.inner.Places.{first_place, key_shown, keys_shown}

-- the id of each row is one that a row may have
pub id_there : (rows : List (Bor Keyed)) (i : ℕ) (row : Bor Keyed) → HaveIds rows → i < length rows → row ≡ get_or rows i row
    → row.now.key.id ≤ greatest_id
id_there rows i row have within is = subst (λ (r : Bor Keyed). r.now.key.id ≤ greatest_id) (sym is) (have i row within)

module _ {X Y : Type 0} (f : X → Y) (xs : List X) (i : ℕ) where
  -- one element more
  pub mapped_more : (x : X) (y : Y) (out now whole : List Y) → i < length xs → x ≡ get_or xs i x → y ≡ f x → now ≡ out ++ y ∷ []
      → out ++ map f (drop i xs) ≡ whole → now ++ map f (drop (i + 1) xs) ≡ whole
  mapped_more x y out now whole within at is pushed so_far =
      let rest : drop i xs ≡ x ∷ drop (i + 1) xs = drop_more xs i x within ∙ ap (λ z. z ∷ drop (i + 1) xs) (sym at) in
      ap (λ l. l ++ map f (drop (i + 1) xs)) (pushed ∙ ap (λ z. out ++ z ∷ []) is)
      ∙ append_assoc out (f x ∷ []) (map f (drop (i + 1) xs))
      ∙ ap (λ d. out ++ map f d) (sym rest)
      ∙ so_far

  -- at the end all are there
  pub mapped_all : (out whole : List Y) → length xs ≤ i → out ++ map f (drop i xs) ≡ whole → out ≡ whole
  mapped_all out whole past so_far =
      sym (append-nil out) ∙ ap (λ d. out ++ map f d) (sym (drop_all i xs past)) ∙ so_far

-- a map of places tells one key more
pub place_more : (keys : List (List Cell)) (i : ℕ) (x key q : List Cell) (old new : Option ℕ) → i < length keys → x ≡ get_or keys i x → key ≡ x
    → old ≡ first_place (take i keys) q → new ≡ option_or old (cond (is_key key q) (Some i) None) → new ≡ first_place (take (i + 1) keys) q
place_more keys i x key q old new within at is before made =
    made ∙ ap₂ (λ o k. option_or o (cond (is_key k q) (Some i) None)) before is
    ∙ sym (position_more (λ other. is_key other q) 0 i (take i keys) x (omega (arith, length-take i keys)))
    ∙ ap (λ l. first_place l q) (sym (one_taken keys i x within at))

-- a key has a first place where one of the keys is it
pub found_any : {X : Type 0} (test : X → Bool) (i : ℕ) (xs : List X) → is_some (position_from test i xs) ≡ list_any test xs
found_any test i [] = refl
found_any test i (x ∷ xs) = pick (test x) (found_any test (i + 1) xs)
  where
    pick : (b : Bool) → is_some (position_from test (i + 1) xs) ≡ list_any test xs
        → is_some (cond b (Some i) (position_from test (i + 1) xs)) ≡ (b || list_any test xs)
    pick true h = refl
    pick false h = h

kept : {X : Type 0} (seen : Bool) (x : X) (found later : List X)
    → cond seen found (found ++ x ∷ []) ++ later ≡ found ++ cond seen later (x ∷ later)
kept true x found later = refl
kept false x found later = append_assoc found (x ∷ []) later

-- elements that are taken where they are like none before them
module _ {X Y : Type 0} (g : X → Y) (alike : Y → Y → Bool) (xs : List X) (i : ℕ) where
  -- one element more was taken or left
  pub firsts_more : (x : X) (seen : Bool) (found now whole : List Y) → i < length xs → x ≡ get_or xs i x
      → seen ≡ list_any (λ y. alike y (g x)) (map g (take i xs)) → now ≡ cond seen found (found ++ g x ∷ [])
      → found ++ firsts_behind alike (map g (take i xs)) (map g (drop i xs)) ≡ whole
      → now ++ firsts_behind alike (map g (take (i + 1) xs)) (map g (drop (i + 1) xs)) ≡ whole
  firsts_more x seen found now whole within at tells now_is so_far =
      let before : List Y = map g (take i xs) in
      let rest : map g (drop i xs) ≡ g x ∷ map g (drop (i + 1) xs) = ap (map g) (left_there xs i x within at) in
      let taken : map g (take (i + 1) xs) ≡ before ++ g x ∷ [] = ap (map g) (one_taken xs i x within at) ∙ map-append g (take i xs) (x ∷ []) in
      let later : List Y = firsts_behind alike (before ++ g x ∷ []) (map g (drop (i + 1) xs)) in
      ap₂ (λ n b. n ++ firsts_behind alike b (map g (drop (i + 1) xs))) now_is taken
      ∙ kept seen (g x) found later
      ∙ ap (λ b. found ++ cond b later (g x ∷ later)) tells
      ∙ ap (λ d. found ++ firsts_behind alike before d) (sym rest)
      ∙ so_far

  -- at the end all were taken or left
  pub firsts_all : (found whole : List Y) → length xs ≤ i
      → found ++ firsts_behind alike (map g (take i xs)) (map g (drop i xs)) ≡ whole → found ≡ whole
  firsts_all found whole past so_far =
      sym (append-nil found) ∙ ap (λ d. found ++ firsts_behind alike (map g (take i xs)) (map g d)) (sym (drop_all i xs past)) ∙ so_far

-- a key that had a place is among those before it
pub key_seen : (before : List (List Cell)) (key whole : List Cell) (had : Option ℕ) → key ≡ whole → had ≡ first_place before key
    → is_some had ≡ list_any (λ other. is_key other whole) before
key_seen before key whole had is had_is =
    ap is_some had_is ∙ found_any (λ other. is_key other key) 0 before ∙ ap (λ k. list_any (λ other. is_key other k) before) is

-- the cells of rows behind references are those of the rows as they are read
pub keys_are_shown : (fields : List (List ℕ)) (rows : List (Bor Keyed)) → keys_shown fields rows ≡ map (key_of fields) (data_of rows)
keys_are_shown fields [] = refl
keys_are_shown fields (row ∷ rows) = ap (λ l. key_shown fields row ∷ l) (keys_are_shown fields rows)

-- a list to which a place was added
pub list_added : (old new : List (List ℕ)) (home place : ℕ) → home < length old → new ≡ set old home (get_or old home [] ++ place ∷ [])
    → (k : ℕ) → get_or new k [] ≡ get_or old k [] ++ cond (eqb home k) (place ∷ []) []
list_added old new home place within made k =
    ap (λ l. get_or l k []) made
    ∙ by_cases (eqb home k)
    (λ e. let is : home ≡ k = eqb-true home k e in
    ap (λ j. get_or (set old home (get_or old home [] ++ place ∷ [])) j []) (sym is)
    ∙ get_or-set_same old home (get_or old home [] ++ place ∷ []) [] within
    ∙ ap₂ (λ j b. get_or old j [] ++ cond b (place ∷ []) []) is (sym e))
    (λ e. get_or-set_other old home k (get_or old home [] ++ place ∷ []) [] (λ is. absurd (eqb-false home k e (sym is)))
    ∙ sym (append-nil (get_or old k [])) ∙ ap (λ b. get_or old k [] ++ cond b (place ∷ []) []) (sym e))

-- no list to which a place could be added
pub none_added : (old : List (List ℕ)) (home place : ℕ) → length old ≤ home → (k : ℕ) → k < length old
    → get_or old k [] ≡ get_or old k [] ++ cond (eqb home k) (place ∷ []) []
none_added old home place past k within =
    by_cases (eqb home k) (λ e. absurd (omega (arith, past, within, eqb-true home k e)))
    (λ e. sym (append-nil (get_or old k [])) ∙ ap (λ b. get_or old k [] ++ cond b (place ∷ []) []) (sym e))

members_pushed : (p i n : ℕ) (homes : List ℕ) (home : ℕ) → n ≡ i + length homes
    → members_from p i (homes ++ home ∷ []) ≡ members_from p i homes ++ cond (eqb home p) (n ∷ []) []
members_pushed p i n [] home e = ap (λ k. cond (eqb home p) (k ∷ []) []) (omega (arith, e))
members_pushed p i n (k ∷ ks) home e = pick (eqb k p) (members_pushed p (i + 1) n ks home (omega (arith, e)))
  where
    pick : (b : Bool) → members_from p (i + 1) (ks ++ home ∷ []) ≡ members_from p (i + 1) ks ++ cond (eqb home p) (n ∷ []) []
        → cond b (i ∷ members_from p (i + 1) (ks ++ home ∷ [])) (members_from p (i + 1) (ks ++ home ∷ []))
        ≡ cond b (i ∷ members_from p (i + 1) ks) (members_from p (i + 1) ks) ++ cond (eqb home p) (n ∷ []) []
    pick true h = ap (λ l. i ∷ l) h
    pick false h = h

-- one home more
pub members_more : (homes : List ℕ) (at : ℕ) (n : ℕ) (old new : List (List ℕ)) → at < length homes → length old ≡ n
    → ((k : ℕ) → k < length old → get_or new k [] ≡ get_or old k [] ++ cond (eqb (get_or homes at 0) k) (at ∷ []) [])
    → ((k : ℕ) → k < n → get_or old k [] ≡ members_from k 0 (take at homes))
    → (k : ℕ) → k < n → get_or new k [] ≡ members_from k 0 (take (at + 1) homes)
members_more homes at n old new within len added before k below =
    added k (omega (arith, len, below)) ∙ ap (λ l. l ++ cond (eqb (get_or homes at 0) k) (at ∷ []) []) (before k below)
    ∙ sym (members_pushed k 0 at (take at homes) (get_or homes at 0) (omega (arith, length-take at homes)))
    ∙ ap (members_from k 0) (sym (ap (λ k. take k homes) (add-one at) ∙ take-suc homes at 0 within))

module _ {X Y : Type 0} (f : X → List Y) where
  flat_after : (xs : List X) (x : X) → flat_map f (xs ++ x ∷ []) ≡ flat_map f xs ++ f x
  flat_after [] x = append-nil (f x)
  flat_after (y ∷ ys) x = ap (λ l. f y ++ l) (flat_after ys x) ∙ sym (append_assoc (f y) (flat_map f ys) (f x))

  -- what one element more gives
  pub flat_more : (xs : List X) (i : ℕ) (x : X) (old new : List Y) → i < length xs → x ≡ get_or xs i x → old ≡ flat_map f (take i xs) → new ≡ old ++ f x
      → new ≡ flat_map f (take (i + 1) xs)
  flat_more xs i x old new within at before is =
      is ∙ ap (λ l. l ++ f x) before ∙ sym (flat_after (take i xs) x) ∙ ap (flat_map f) (sym (one_taken xs i x within at))

-- one numbered element more
pub numbered_more : {X Y : Type 0} (f : ℕ × X → Y) (xs : List X) (i : ℕ) (x : X) (y : Y) (out now whole : List Y) → i < length xs → x ≡ get_or xs i x
    → y ≡ f (i, x) → now ≡ out ++ y ∷ [] → out ++ map f (enumerate_from i (drop i xs)) ≡ whole
    → now ++ map f (enumerate_from (i + 1) (drop (i + 1) xs)) ≡ whole
numbered_more f xs i x y out now whole within at is pushed so_far =
    let rest : drop i xs ≡ x ∷ drop (i + 1) xs = drop_more xs i x within ∙ ap (λ z. z ∷ drop (i + 1) xs) (sym at) in
    ap (λ l. l ++ map f (enumerate_from (i + 1) (drop (i + 1) xs))) (pushed ∙ ap (λ z. out ++ z ∷ []) is)
    ∙ append_assoc out (f (i, x) ∷ []) (map f (enumerate_from (i + 1) (drop (i + 1) xs)))
    ∙ ap (λ d. out ++ map f (enumerate_from i d)) (sym rest)
    ∙ so_far

-- choices with one list more
pub chosen_more : (lists : List (List Cell)) (i : ℕ) (cells : List Cell) (made now : List (List Cell)) → i < length lists → cells ≡ get_or lists i cells
    → made ≡ choices (drop (i + 1) lists) → now ≡ flat_map (λ cell. map (λ rest. cell ∷ rest) made) cells → now ≡ choices (drop i lists)
chosen_more lists i cells made now within at before is =
    is ∙ ap (λ (rests : List (List Cell)). flat_map (λ cell. map (λ rest. cell ∷ rest) rests) cells) before
    ∙ ap choices (sym (drop_more lists i cells within ∙ ap (λ l. l ∷ drop (i + 1) lists) (sym at)))
