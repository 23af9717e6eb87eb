-- Runs of items as one list: what is added to them, and the last that is found in them.
use Rattle.std.proofs.Common.{◌≡◌, ℕ, zero, suc, ◌+◌, ◌-◌, ◌<◌, ◌≤◌, List, [], ◌∷◌, ◌++◌, length, take, get_or, set, map, filter, refl, sym, ap, ◌∙◌, arith}
use Rattle.std.proofs.Common.{Bool, true, false, cond, Option, Some, None, append_assoc, append-nil, subst}
use Rattle.std.specs.Option.{option_or, option_map}
use Rattle.std.specs.List.{enumerate_from}
use Rattle.std.proofs.lemmas.List.{take_more, length-append, map-append}
use Rattle.std.proofs.lemmas.List.Elements.{filter-append}
use Rattle.std.proofs.lemmas.List.Concat.{flat_map-append}
use Rattle.scene_tree.specs.Items.{joined}
use Rattle.scene_tree.specs.Hits.{last, places_where}
use Rattle.scene_tree.proofs.LastLemmas.{last-append, last-map, enumerate_from-append, place, passes_at}

-- ---- what is added

-- runs behind others
pub more_runs : {X : Type 0} (runs more all : List (List X)) (old : List X) → joined runs ≡ old → all ≡ runs ++ more
    → joined all ≡ old ++ joined more
more_runs runs more all old is adds =
    ap joined adds ∙ flat_map-append (λ run. run) runs more ∙ ap (λ l. l ++ joined more) is

-- one run behind others
pub one_run_more : {X : Type 0} (runs all : List (List X)) (run old : List X) → joined runs ≡ old → all ≡ runs ++ run ∷ []
    → joined all ≡ old ++ run
one_run_more runs all run old is adds =
    more_runs runs (run ∷ []) all old is adds ∙ ap (λ l. old ++ l) (append-nil run)

grown : {X : Type 0} (runs : List (List X)) (at : ℕ) (d more : List X) → suc at ≡ length runs
    → joined (set runs at (get_or runs at d ++ more)) ≡ joined runs ++ more
grown [] at d more last = absurd (omega (arith, last))
grown (run ∷ []) zero d more last = append-nil (run ++ more) ∙ ap (λ l. l ++ more) (sym (append-nil run))
grown (run ∷ (next ∷ runs)) zero d more last = absurd (omega (arith, last))
grown (run ∷ runs) (suc at) d more last =
    let rest : suc at ≡ length runs = omega (arith, last) in
    ap (λ l. run ++ l) (grown runs at d more rest) ∙ sym (append_assoc run (joined runs) more)

-- the last run has become longer
pub last_grown : {X : Type 0} (runs all : List (List X)) (at : ℕ) (d more : List X) → suc at ≡ length runs
    → all ≡ set runs at (get_or runs at d ++ more) → joined all ≡ joined runs ++ more
last_grown runs all at d more last is = ap joined is ∙ grown runs at d more last

-- so many more
pub count_more : {X : Type 0} (all old more : List X) (n m total : ℕ) → n ≡ length old → m ≡ length more → total ≡ n + m → all ≡ old ++ more
    → total ≡ length all
count_more all old more n m total is_n is_m adds is =
    let long = length-append old more in
    let same : n + m ≡ length old + length more = omega (arith, is_n, is_m) in
    adds ∙ same ∙ sym long ∙ sym (ap length is)

-- ---- the last that is found

-- one place more, where the element there passes
farther_by : {X : Type 0} (n m : ℕ) (x : X) (far near : List (ℕ × X)) → map place far ≡ map (λ k. n + k) (map place near) → (b : Bool)
    → map place (cond b ((n + m, x) ∷ far) far) ≡ map (λ k. n + k) (map place (cond b ((m, x) ∷ near) near))
farther_by n m x far near rest true = ap (λ l. (n + m) ∷ l) rest
farther_by n m x far near rest false = rest

-- places from a number on are so much farther
farther : {X : Type 0} (test : X → Bool) (n m : ℕ) (xs : List X)
    → map place (filter (passes_at test) (enumerate_from (n + m) xs)) ≡ map (λ k. n + k) (map place (filter (passes_at test) (enumerate_from m xs)))
farther test n m [] = refl
farther test n m (x ∷ xs) =
    let next : n + m + 1 ≡ n + (m + 1) = omega arith in
    farther_by n m x (filter (passes_at test) (enumerate_from (n + m + 1) xs)) (filter (passes_at test) (enumerate_from (m + 1) xs))
    (ap (λ k. map place (filter (passes_at test) (enumerate_from k xs))) next ∙ farther test n (m + 1) xs) (test x)

-- places in two lists, one behind the other
places-append : {X : Type 0} (test : X → Bool) (xs ys : List X)
    → places_where test (xs ++ ys) ≡ places_where test xs ++ map (λ k. length xs + k) (places_where test ys)
places-append test xs ys =
    let from : 0 + length xs ≡ length xs + 0 = omega arith in
    ap (λ ps. map place (filter (passes_at test) ps)) (enumerate_from-append 0 xs ys)
    ∙ ap (map place) (filter-append (passes_at test) (enumerate_from 0 xs) (enumerate_from (0 + length xs) ys))
    ∙ map-append place (filter (passes_at test) (enumerate_from 0 xs)) (filter (passes_at test) (enumerate_from (0 + length xs) ys))
    ∙ ap (λ k. places_where test xs ++ map place (filter (passes_at test) (enumerate_from k ys))) from
    ∙ ap (λ l. places_where test xs ++ l) (farther test (length xs) 0 ys)

-- the runs before j: those before the last of them, and that one
up_to : {X : Type 0} (runs : List (List X)) (j : ℕ) (run : List X) → 0 < j → j ≤ length runs → run ≡ get_or runs (j - 1) run
    → joined (take j runs) ≡ joined (take (j - 1) runs) ++ run
up_to runs j run positive within is =
    let next : j ≡ j - 1 + 1 = omega (arith, positive) in
    let before : j - 1 < length runs = omega (arith, positive, within) in
    ap (λ k. joined (take k runs)) next ∙ ap joined (take_more runs (j - 1) run before)
    ∙ one_run_more (take (j - 1) runs) (take (j - 1) runs ++ get_or runs (j - 1) run ∷ []) (get_or runs (j - 1) run) (joined (take (j - 1) runs)) refl refl
    ∙ ap (λ r. joined (take (j - 1) runs) ++ r) (sym is)

-- so many items stand before a run
items_before : {X : Type 0} (runs : List (List X)) (j : ℕ) (run : List X) → 0 < j → j ≤ length runs → run ≡ get_or runs (j - 1) run
    → length (joined (take j runs)) ≡ length (joined (take (j - 1) runs)) + length run
items_before runs j run positive within is =
    ap length (up_to runs j run positive within is) ∙ length-append (joined (take (j - 1) runs)) run

one_run : {X : Type 0} (test : X → Bool) (runs : List (List X)) (j : ℕ) (run : List X) (item : Option ℕ) → 0 < j → j ≤ length runs
    → run ≡ get_or runs (j - 1) run → item ≡ last (places_where test run)
    → last (places_where test (joined (take j runs)))
    ≡ option_or (option_map (λ k. length (joined (take (j - 1) runs)) + k) item) (last (places_where test (joined (take (j - 1) runs))))
one_run test runs j run item positive within is finds =
    let before = joined (take (j - 1) runs) in
    ap (λ l. last (places_where test l)) (up_to runs j run positive within is)
    ∙ ap last (places-append test before run)
    ∙ last-append (places_where test before) (map (λ k. length before + k) (places_where test run))
    ∙ ap (λ o. option_or o (last (places_where test before)))
    (last-map (λ k. length before + k) (places_where test run) ∙ ap (option_map (λ k. length before + k)) (sym finds))

-- what is known before the runs from j on: how many items stand there, and that none from there on passes
abbrev Left : {X : Type 0} → (X → Bool) → List (List X) → ℕ → ℕ → Option ℕ → Type 0
Left test runs j before found = (before ≡ length (joined (take j runs))) × (last (places_where test (joined (take j runs))) ≡ found)

module _ {X : Type 0} (test : X → Bool) (runs : List (List X)) (j : ℕ) (here run : List X) (before len : ℕ) (found : Option ℕ)
    (positive : 0 < j) (within : j ≤ length runs) (at : here ≡ get_or runs (j - 1) here) (is : run ≡ here) (long : len ≡ length run)
    (left : Left test runs j before found) where
  there : run ≡ get_or runs (j - 1) run
  there = subst (λ r. r ≡ get_or runs (j - 1) r) (sym is) at

  fewer : before - len ≡ length (joined (take (j - 1) runs))
  fewer = let all = items_before runs j run positive within there in omega (arith, left.0, long, all)

  -- the last of the runs before j has the item looked for, if one in it passes
  pub run_here : (item : ℕ) → Some item ≡ last (places_where test run) → Some (before - len + item) ≡ found
  run_here item finds =
      ap (λ n. Some (n + item)) fewer ∙ sym (one_run test runs j run (Some item) positive within there finds) ∙ left.1

  -- if none in it passes, the one looked for stands in a run before it
  pub run_before : None ≡ last (places_where test run) → Left test runs (j - 1) (before - len) found
  run_before finds = (fewer, sym (one_run test runs j run None positive within there finds) ∙ left.1)
