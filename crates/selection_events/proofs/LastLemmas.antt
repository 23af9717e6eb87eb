-- The last of what is found on the way through a list is the last of all that is found in it.
use Rattle.std.proofs.Common.{◌≡◌, ℕ, ◌+◌, Bool, true, false, cond, Option, Some, None, List, [], ◌∷◌, ◌++◌, map, filter, refl, sym, ap, ◌∙◌}
use Rattle.std.specs.Option.{unwrap_or, option_or}
use Rattle.std.specs.List.{filter_map, enumerate_from, cons_option}
use Rattle.scene_tree.specs.Hits.{last, places_where}
use Rattle.scene_tree.specs.Items.{joined}
use Rattle.selection_events.specs.inner.Last.{last_place, last_found, last_in_runs}

or_nothing : {X : Type 0} (o : Option X) → option_or o None ≡ o
or_nothing None = refl
or_nothing (Some x) = refl

-- one more in front: it is the last where nothing follows
or_one : {X : Type 0} (o : Option X) (x : X) (found : Option X) → option_or o (Some x) ≡ option_or (Some (unwrap_or o x)) found
or_one None x found = refl
or_one (Some y) x found = refl

abbrev place : {X : Type 0} → ℕ × X → ℕ
place p = p.0

abbrev passes_at : {X : Type 0} → (X → Bool) → ℕ × X → Bool
passes_at test p = test p.1

place_step : {X : Type 0} (b : Bool) (n : ℕ) (x : X) (rest : List (ℕ × X)) (found : Option ℕ)
    → option_or (last (map place rest)) (cond b (Some n) found) ≡ option_or (last (map place (cond b ((n, x) ∷ rest) rest))) found
place_step true n x rest found = or_one (last (map place rest)) n found
place_step false n x rest found = refl

last_place_is : {X : Type 0} (test : X → Bool) (n : ℕ) (xs : List X) (found : Option ℕ)
    → last_place test n xs found ≡ option_or (last (map place (filter (passes_at test) (enumerate_from n xs)))) found
last_place_is test n [] found = refl
last_place_is test n (x ∷ xs) found =
    last_place_is test (n + 1) xs (cond (test x) (Some n) found)
    ∙ place_step (test x) n x (filter (passes_at test) (enumerate_from (n + 1) xs)) found

-- the last place at which an element passes
pub last_place_begun : {X : Type 0} (test : X → Bool) (xs : List X) → last_place test 0 xs None ≡ last (places_where test xs)
last_place_begun test xs = last_place_is test 0 xs None ∙ or_nothing (last (places_where test xs))

found_step : {Y : Type 0} (o : Option Y) (rest : List Y) (found : Option Y)
    → option_or (last rest) (option_or o found) ≡ option_or (last (cons_option o rest)) found
found_step None rest found = refl
found_step (Some y) rest found = or_one (last rest) y found

last_found_is : {X Y : Type 0} (give : X → Option Y) (xs : List X) (found : Option Y)
    → last_found give xs found ≡ option_or (last (filter_map give xs)) found
last_found_is give [] found = refl
last_found_is give (x ∷ xs) found =
    last_found_is give xs (option_or (give x) found) ∙ found_step (give x) (filter_map give xs) found

last_found-append : {X Y : Type 0} (give : X → Option Y) (xs ys : List X) (found : Option Y)
    → last_found give (xs ++ ys) found ≡ last_found give ys (last_found give xs found)
last_found-append give [] ys found = refl
last_found-append give (x ∷ xs) ys found = last_found-append give xs ys (option_or (give x) found)

last_in_runs_is : {X Y : Type 0} (give : X → Option Y) (runs : List (List X)) (found : Option Y)
    → last_in_runs give runs found ≡ last_found give (joined runs) found
last_in_runs_is give [] found = refl
last_in_runs_is give (run ∷ runs) found =
    last_in_runs_is give runs (last_found give run found) ∙ sym (last_found-append give run (joined runs) found)

-- the last that is given of an element of some runs
pub last_in_runs_begun : {X Y : Type 0} (give : X → Option Y) (runs : List (List X)) (xs : List X) → joined runs ≡ xs
    → last_in_runs give runs None ≡ last (filter_map give xs)
last_in_runs_begun give runs xs is =
    last_in_runs_is give runs None ∙ last_found_is give (joined runs) None ∙ or_nothing (last (filter_map give (joined runs)))
    ∙ ap (λ l. last (filter_map give l)) is
