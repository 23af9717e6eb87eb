-- Why numbers and cells that are counted give the domains of those that stand in rows.
use Rattle.std.proofs.Common.{◌≡◌, ℤ, ◌≤ℤ◌, ◌||◌, Bool, true, false, cond, List, [], ◌∷◌, map, length, Option, Some, None, refl, sym}
use Rattle.std.proofs.Common.{ap, ◌∙◌, arith}
use Rattle.std.specs.Prelude.{int_lt}
use Rattle.std.specs.List.{list_any}
use Rattle.std.specs.Option.{option_map}
use Rattle.std.specs.Ordering.{int_eq}
use Rattle.std.specs.FinMap.{FinMap, entries, from_entries, get, find, put, entries-insert, get-from_entries, len-entries, len-empty, same_map}
use Rattle.std.proofs.lemmas.Bool.{false≢true}
use Rattle.std.proofs.lemmas.Bool.Decides.{Decides-int_eq}
use Rattle.std.proofs.lemmas.Int.{ints, clamps}
use Rattle.fixed_num.specs.Ranges.{all_found}
use Rattle.cell_value.specs.declared.cell.Cell.{Cell}
use Rattle.cell_value.specs.declared.cell.Cell.TheVariants.{Null}
use Rattle.cell_value.specs.Cell.{cell_cmp, same_cells}
use Rattle.cell_value.specs.inner.CellOrder.{cell_cmp_total, only_equal_cells_tie}
use Rattle.tick_kit.specs.Domains.{least, greatest, placed_in, ascending}
use Rattle.domain_kit.specs.Orders.{entry, keys_of}
use Rattle.domain_kit.specs.Laws.{EndsGiveTheExtent, SameNumbersEndAlike, SameCellsStandAlike, RanksAreByKeys}
use Rattle.domain_kit.proofs.CellLemmas.{by_ordering}

pub ends_give_the_extent : EndsGiveTheExtent
ends_give_the_extent [] = refl
ends_give_the_extent (n ∷ ns) = refl

abbrev among : ℤ → List ℤ → Bool
among n ns = list_any (int_eq n) ns

same_int : (a b : ℤ) → int_eq a b ≡ true → a ≡ b
same_int a b e = (Decides-int_eq a b).0 e

itself : (n : ℤ) → int_eq n n ≡ true
itself n = (Decides-int_eq n n).1 refl

left_true : (a b : Bool) → a ≡ true → (a || b) ≡ true
left_true a b e = ap (λ a. a || b) e

right_true : (a b : Bool) → b ≡ true → (a || b) ≡ true
right_true true b e = refl
right_true false b e = e

either_true : {P : Type 0} (a b : Bool) → (a || b) ≡ true → (a ≡ true → P) → (b ≡ true → P) → P
either_true true b e first second = first refl
either_true false b e first second = second e

-- of two numbers the one that is picked is among them and others
picked_here : (b : Bool) (m n : ℤ) (ns : List ℤ) → among n ns ≡ true → among (cond b n m) (m ∷ ns) ≡ true
picked_here true m n ns h = right_true (int_eq n m) (among n ns) h
picked_here false m n ns h = left_true (int_eq m m) (among m ns) (itself m)

kept_here : (b : Bool) (m n : ℤ) (ns : List ℤ) → among n ns ≡ true → among (cond b m n) (m ∷ ns) ≡ true
kept_here true m n ns h = left_true (int_eq m m) (among m ns) (itself m)
kept_here false m n ns h = right_true (int_eq n m) (among n ns) h

-- the least and the greatest of numbers are among them
least_here : (m : ℤ) (ns : List ℤ) → among (least m ns) (m ∷ ns) ≡ true
least_here m [] = left_true (int_eq m m) false (itself m)
least_here m (n ∷ ns) = picked_here (int_lt (least n ns) m) m (least n ns) (n ∷ ns) (least_here n ns)

greatest_here : (m : ℤ) (ns : List ℤ) → among (greatest m ns) (m ∷ ns) ≡ true
greatest_here m [] = left_true (int_eq m m) false (itself m)
greatest_here m (n ∷ ns) = kept_here (int_lt (greatest n ns) m) m (greatest n ns) (n ∷ ns) (greatest_here n ns)

-- and each of them lies between
least_below : (m : ℤ) (ns : List ℤ) (k : ℤ) → among k (m ∷ ns) ≡ true → least m ns ≤ℤ k
least_below m [] k h =
    either_true (int_eq k m) false h (λ e. let same : k ≡ m = same_int k m e in omega (arith, ints, same)) (λ e. absurd (false≢true e))
least_below m (n ∷ ns) k h =
    either_true (int_eq k m) (among k (n ∷ ns)) h
    (λ e. let same : k ≡ m = same_int k m e in omega (arith, ints, clamps, same))
    (λ e. let below : least n ns ≤ℤ k = least_below n ns k e in omega (arith, ints, clamps, below))

greatest_above : (m : ℤ) (ns : List ℤ) (k : ℤ) → among k (m ∷ ns) ≡ true → k ≤ℤ greatest m ns
greatest_above m [] k h =
    either_true (int_eq k m) false h (λ e. let same : k ≡ m = same_int k m e in omega (arith, ints, same)) (λ e. absurd (false≢true e))
greatest_above m (n ∷ ns) k h =
    either_true (int_eq k m) (among k (n ∷ ns)) h
    (λ e. let same : k ≡ m = same_int k m e in omega (arith, ints, clamps, same))
    (λ e. let above : k ≤ℤ greatest n ns = greatest_above n ns k e in omega (arith, ints, clamps, above))

one_number : (a b : ℤ) → a ≤ℤ b → b ≤ℤ a → a ≡ b
one_number a b h i = omega (arith, ints, h, i)

pub same_numbers_end_alike : SameNumbersEndAlike
same_numbers_end_alike [] [] same = refl
same_numbers_end_alike [] (n ∷ ns) same = absurd (false≢true (same n ∙ left_true (int_eq n n) (among n ns) (itself n)))
same_numbers_end_alike (m ∷ ms) [] same = absurd (false≢true (sym (same m) ∙ left_true (int_eq m m) (among m ms) (itself m)))
same_numbers_end_alike (m ∷ ms) (n ∷ ns) same =
    let low : least m ms ≡ least n ns =
    one_number (least m ms) (least n ns) (least_below m ms (least n ns) (same (least n ns) ∙ least_here n ns))
    (least_below n ns (least m ms) (sym (same (least m ms)) ∙ least_here m ms)) in
    let high : greatest m ms ≡ greatest n ns =
    one_number (greatest m ms) (greatest n ns) (greatest_above n ns (greatest m ms) (sym (same (greatest m ms)) ∙ greatest_here m ms))
    (greatest_above m ms (greatest n ns) (same (greatest n ns) ∙ greatest_here n ns)) in
    λ i. Some (low i, high i)

-- cells as the keys of a map
abbrev keyed : List Cell → List (Cell × Cell)
keyed cs = map (λ (c : Cell). (c, Null)) cs

abbrev map_of : List Cell → FinMap cell_cmp Cell
map_of cs = from_entries (keyed cs)

abbrev first_keys : List (Cell × Cell) → List Cell
first_keys es = map (λ (e : Cell × Cell). e.0) es

-- a key that is put goes where the definition puts a cell
put_keys : (k : Cell) (es : List (Cell × Cell)) → first_keys (put cell_cmp k Null es) ≡ placed_in cell_cmp k (first_keys es)
put_keys k [] = refl
put_keys k ((x, v) ∷ es) =
    by_ordering (cell_cmp k x) (λ h. rw h refl) (λ h. rw h refl) (λ h. rw h (ap (λ r. x ∷ r) (put_keys k es)))

no_entries : (es : List (Cell × Cell)) → length es ≡ 0 → first_keys es ≡ []
no_entries [] h = refl
no_entries (e ∷ es) h = absurd (omega (arith, h))

keys_are : (cs : List Cell) → first_keys (entries (map_of cs)) ≡ ascending cell_cmp cs
keys_are [] = no_entries (entries (map_of [])) (sym (len-entries (map_of [])) ∙ len-empty cell_cmp Cell)
keys_are (c ∷ cs) =
    ap first_keys (entries-insert cell_cmp_total (map_of cs) c Null)
    ∙ put_keys c (entries (map_of cs))
    ∙ ap (placed_in cell_cmp c) (keys_are cs)

found_by : (b rest : Bool) (found : Option Cell) → found ≡ cond rest (Some Null) None
    → cond b (Some Null) found ≡ cond (b || rest) (Some Null) None
found_by true rest found h = refl
found_by false rest found h = h

find_is : (cs : List Cell) (c : Cell) → find cell_cmp c (keyed cs) ≡ cond (list_any (same_cells c) cs) (Some Null) None
find_is [] c = refl
find_is (d ∷ ds) c = found_by (same_cells c d) (list_any (same_cells c) ds) (find cell_cmp c (keyed ds)) (find_is ds c)

get_is : (cs : List Cell) (c : Cell) → get (map_of cs) c ≡ cond (list_any (same_cells c) cs) (Some Null) None
get_is cs c = get-from_entries cell_cmp_total (keyed cs) c ∙ find_is cs c

pub same_cells_stand_alike : SameCellsStandAlike
same_cells_stand_alike cs ds same =
    let alike : map_of cs ≡ map_of ds =
    same_map cell_cmp_total only_equal_cells_tie (map_of cs) (map_of ds)
    (λ c. get_is cs c ∙ ap (λ b. cond b (Some Null) None) (same c) ∙ sym (get_is ds c)) in
    sym (keys_are cs) ∙ ap (λ m. first_keys (entries m)) alike ∙ keys_are ds

pub ranks_are_by_keys : RanksAreByKeys
ranks_are_by_keys op given keys rank same each =
    λ i. all_found (map (λ (key : Cell). option_map (λ r. entry r key) (each key i)) (same_cells_stand_alike keys (keys_of given) same i))
