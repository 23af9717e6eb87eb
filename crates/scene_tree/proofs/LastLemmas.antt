-- The last of what is found in a list, from the end of the list on.
use Rattle.std.proofs.Common.{◌≡◌, ℕ, suc, ◌+◌, ◌-◌, ◌<◌, ◌≤◌, List, [], ◌∷◌, ◌++◌, length, take, get_or, map, filter, refl, sym, ap, ◌∙◌, arith}
use Rattle.std.proofs.Common.{Bool, true, false, cond, Option, Some, None}
use Rattle.std.specs.Option.{unwrap_or, option_or, option_map}
use Rattle.std.specs.List.{flat_map, enumerate_from}
use Rattle.std.proofs.lemmas.List.{take_more, length-take-le, map-append, append-nil}
use Rattle.std.proofs.lemmas.List.Elements.{filter-append}
use Rattle.std.proofs.lemmas.List.Concat.{flat_map-append}
use Rattle.scene_tree.specs.Hits.{last, places_where}

or_none : {X : Type 0} (o : Option X) → o ≡ option_or o None
or_none None = refl
or_none (Some x) = refl

or_after : {X : Type 0} (o p : Option X) (x : X) → Some (unwrap_or (option_or o p) x) ≡ option_or o (Some (unwrap_or p x))
or_after None p x = refl
or_after (Some y) p x = refl

-- of two lists the second decides, where it has an element
pub last-append : {X : Type 0} (xs ys : List X) → last (xs ++ ys) ≡ option_or (last ys) (last xs)
last-append [] ys = or_none (last ys)
last-append (x ∷ xs) ys = ap (λ o. Some (unwrap_or o x)) (last-append xs ys) ∙ or_after (last ys) (last xs) x

map_after : {X Y : Type 0} (f : X → Y) (o : Option X) (x : X) → Some (unwrap_or (option_map f o) (f x)) ≡ Some (f (unwrap_or o x))
map_after f None x = refl
map_after f (Some y) x = refl

pub last-map : {X Y : Type 0} (f : X → Y) (xs : List X) → last (map f xs) ≡ option_map f (last xs)
last-map f [] = refl
last-map f (x ∷ xs) = ap (λ o. Some (unwrap_or o (f x))) (last-map f xs) ∙ map_after f (last xs) x

one_further : (n k : ℕ) → n + 1 + k ≡ n + suc k
one_further n k = omega arith

pub enumerate_from-append : {X : Type 0} (n : ℕ) (xs ys : List X)
    → enumerate_from n (xs ++ ys) ≡ enumerate_from n xs ++ enumerate_from (n + length xs) ys
enumerate_from-append n [] ys = let same : n ≡ n + 0 = omega arith in ap (λ k. enumerate_from k ys) same
enumerate_from-append n (x ∷ xs) ys =
    ap (λ r. (n, x) ∷ r)
    (enumerate_from-append (n + 1) xs ys ∙ ap (λ k. enumerate_from (n + 1) xs ++ enumerate_from k ys) (one_further n (length xs)))

abbrev pub place : {X : Type 0} → ℕ × X → ℕ
place p = p.0

abbrev pub passes_at : {X : Type 0} → (X → Bool) → ℕ × X → Bool
passes_at test p = test p.1

-- the elements before j, with their places: those before the last of them, and that one
up_to : {X : Type 0} (xs : List X) (j : ℕ) (x : X) → 0 < j → j ≤ length xs → x ≡ get_or xs (j - 1) x
    → enumerate_from 0 (take j xs) ≡ enumerate_from 0 (take (j - 1) xs) ++ (j - 1, x) ∷ []
up_to xs j x positive within is =
    let next : j ≡ j - 1 + 1 = omega (arith, positive) in
    let before : j - 1 < length xs = omega (arith, positive, within) in
    let fits : j - 1 ≤ length xs = omega (arith, within) in
    let long : length (take (j - 1) xs) ≡ j - 1 = length-take-le (j - 1) xs fits in
    let at : 0 + length (take (j - 1) xs) ≡ j - 1 = omega (arith, long) in
    ap (λ k. enumerate_from 0 (take k xs)) next ∙ ap (enumerate_from 0) (take_more xs (j - 1) x before)
    ∙ enumerate_from-append 0 (take (j - 1) xs) (get_or xs (j - 1) x ∷ [])
    ∙ ap (λ k. enumerate_from 0 (take (j - 1) xs) ++ enumerate_from k (get_or xs (j - 1) x ∷ [])) at
    ∙ ap (λ y. enumerate_from 0 (take (j - 1) xs) ++ enumerate_from (j - 1) (y ∷ [])) (sym is)

place_at_end : {X : Type 0} (b : Bool) (i : ℕ) (x : X) (o : Option ℕ)
    → option_or (last (map place (cond b ((i, x) ∷ []) []))) o ≡ cond b (Some i) o
place_at_end true i x o = refl
place_at_end false i x o = refl

one_place : {X : Type 0} (test : X → Bool) (xs : List X) (j : ℕ) (x : X) → 0 < j → j ≤ length xs → x ≡ get_or xs (j - 1) x
    → last (places_where test (take j xs)) ≡ cond (test x) (Some (j - 1)) (last (places_where test (take (j - 1) xs)))
one_place test xs j x positive within is =
    let before = enumerate_from 0 (take (j - 1) xs) in
    ap (λ ps. last (map place (filter (passes_at test) ps))) (up_to xs j x positive within is)
    ∙ ap (λ ps. last (map place ps)) (filter-append (passes_at test) before ((j - 1, x) ∷ []))
    ∙ ap last (map-append place (filter (passes_at test) before) (filter (passes_at test) ((j - 1, x) ∷ [])))
    ∙ last-append (map place (filter (passes_at test) before)) (map place (filter (passes_at test) ((j - 1, x) ∷ [])))
    ∙ place_at_end (test x) (j - 1) x (last (places_where test (take (j - 1) xs)))

-- the last of the elements before j is the one looked for, if it passes and those from j on don't
pub place_here : {X : Type 0} (test : X → Bool) (xs : List X) (j : ℕ) (x : X) (found : Option ℕ) → 0 < j → j ≤ length xs
    → x ≡ get_or xs (j - 1) x → test x ≡ true → last (places_where test (take j xs)) ≡ found → Some (j - 1) ≡ found
place_here test xs j x found positive within is passes rest =
    sym (one_place test xs j x positive within is
    ∙ ap (λ b. cond b (Some (j - 1)) (last (places_where test (take (j - 1) xs)))) passes) ∙ rest

-- if it doesn't pass, the one looked for stands before it
pub place_before : {X : Type 0} (test : X → Bool) (xs : List X) (j : ℕ) (x : X) (found : Option ℕ) → 0 < j → j ≤ length xs
    → x ≡ get_or xs (j - 1) x → test x ≡ false → last (places_where test (take j xs)) ≡ found
    → last (places_where test (take (j - 1) xs)) ≡ found
place_before test xs j x found positive within is fails rest =
    sym (one_place test xs j x positive within is
    ∙ ap (λ b. cond b (Some (j - 1)) (last (places_where test (take (j - 1) xs)))) fails) ∙ rest

-- of what each element gives, the last one's decides, where it gives something
pub one_part : {X Y : Type 0} (f : ℕ × X → List Y) (xs : List X) (j : ℕ) (x : X) → 0 < j → j ≤ length xs → x ≡ get_or xs (j - 1) x
    → last (flat_map f (enumerate_from 0 (take j xs)))
    ≡ option_or (last (f (j - 1, x))) (last (flat_map f (enumerate_from 0 (take (j - 1) xs))))
one_part f xs j x positive within is =
    let before = enumerate_from 0 (take (j - 1) xs) in
    ap (λ ps. last (flat_map f ps)) (up_to xs j x positive within is)
    ∙ ap last (flat_map-append f before ((j - 1, x) ∷ []))
    ∙ last-append (flat_map f before) (f (j - 1, x) ++ [])
    ∙ ap (λ ys. option_or (last ys) (last (flat_map f before))) (append-nil (f (j - 1, x)))
