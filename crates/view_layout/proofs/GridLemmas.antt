-- What columns, rows and positions are, one step after another.
use Rattle.std.proofs.Common.{◌≡◌, ℕ, zero, suc, ◌+◌, ◌-◌, ◌*◌, ◌<◌, ◌≤◌, List, [], ◌∷◌, ◌++◌, length, take, drop, get_or, drop-cons}
use Rattle.std.proofs.Common.{refl, sym, ap, ◌∙◌, arith, append_assoc, length-drop, length-append}
use Rattle.std.specs.Prelude.{map, min, fold}
use Rattle.std.specs.List.{sum_by, range_with_len}
use Rattle.std.proofs.lemmas.List.{take_more}
use Rattle.std.proofs.lemmas.List.Sums.{sum_by-append}
use native.Mathlib.Numerals.{unary_clauses}
use Rattle.fixed_num.specs.Number.{limit}
use Rattle.view_layout.specs.declared.spans.Span.{Span}
use Rattle.view_layout.specs.Lengths.{plus}
use Rattle.view_layout.specs.Grid.{larger, greatest, every, groups_within, groups_of, whole, positions}

-- every n-th from the one at k on begins behind the first k
pub every-drop : {X : Type 0} (n k : ℕ) (xs : List X) → every n k xs ≡ every n 0 (drop k xs)
every-drop n zero xs = refl
every-drop n (suc k) [] = refl
every-drop n (suc k) (x ∷ xs) = every-drop n k xs

skip-one : {X : Type 0} (n : ℕ) (x : X) (xs : List X) → 0 < n → drop (n - 1) xs ≡ drop n (x ∷ xs)
skip-one zero x xs above = absurd (omega arith)
skip-one (suc n) x xs above = simp unary_clauses

-- and its first one is followed by every n-th of those behind the first n
pub every-next : {X : Type 0} (n : ℕ) (x : X) (xs : List X) → 0 < n → every n 0 (x ∷ xs) ≡ x ∷ every n 0 (drop n (x ∷ xs))
every-next n x xs above =
    ap (λ (others : List _). x ∷ others) (every-drop n (n - 1) xs ∙ ap (every n 0) (skip-one n x xs above))

-- as many groups as there are elements are enough
groups-enough : {X : Type 0} (more less n : ℕ) (xs : List X) → 0 < n → length xs ≤ less → less ≤ more
    → groups_within more n xs ≡ groups_within less n xs
groups-enough zero zero n xs above short fewer = refl
groups-enough zero (suc less) n xs above short fewer = absurd (omega arith)
groups-enough (suc more) zero n [] above short fewer = refl
groups-enough (suc more) zero n (x ∷ xs) above short fewer = absurd (omega arith)
groups-enough (suc more) (suc less) n [] above short fewer = refl
groups-enough (suc more) (suc less) n (x ∷ xs) above short fewer =
    ap (λ (groups : List (List _)). take n (x ∷ xs) ∷ groups)
    (groups-enough more less n (drop n (x ∷ xs)) above (simp length-drop (omega arith)) (omega arith))

-- the first group is followed by the groups of the others
pub groups-next : {X : Type 0} (n : ℕ) (x : X) (xs : List X) → 0 < n
    → groups_of n (x ∷ xs) ≡ take n (x ∷ xs) ∷ groups_of n (drop n (x ∷ xs))
groups-next n x xs above =
    ap (λ (groups : List (List _)). take n (x ∷ xs) ∷ groups)
    (groups-enough (length xs) (length (drop n (x ∷ xs))) n (drop n (x ∷ xs)) above (omega arith) (simp length-drop (omega arith)))

-- one more span among those that stand n apart
pub apart-next : (n : ℕ) (found : Span) (xs : List Span) (d all : Span) → 0 < n → 1 ≤ length xs
    → fold larger found (every n 0 xs) ≡ all → fold larger (larger found (get_or xs 0 d)) (every n 0 (drop n xs)) ≡ all
apart-next n found [] d all above some is = absurd (omega arith)
apart-next n found (x ∷ xs) d all above some is = ap (fold larger found) (sym (every-next n x xs above)) ∙ is

-- one more row
pub row-next : (n : ℕ) (out xs all : List Span) → 0 < n → 1 ≤ length xs
    → out ++ map greatest (groups_of n xs) ≡ all
    → (out ++ greatest (take n xs) ∷ []) ++ map greatest (groups_of n (drop n xs)) ≡ all
row-next n out [] all above some is = absurd (omega arith)
row-next n out (x ∷ xs) all above some is =
    append_assoc out (greatest (take n (x ∷ xs)) ∷ []) (map greatest (groups_of n (drop n (x ∷ xs))))
    ∙ ap (λ groups. out ++ map greatest groups) (sym (groups-next n x xs above)) ∙ is

-- numbers from k up to an end begin with k
range-next : (k end : ℕ) → k < end → range_with_len k (end - k) ≡ k ∷ range_with_len (k + 1) (end - (k + 1))
range-next k end below = let e : end - k ≡ suc (end - (k + 1)) = omega arith in ap (range_with_len k) e

abbrev column : ℕ → List Span → ℕ → Span
column n cells k = greatest (every n k cells)

-- one more column
pub column-next : (n : ℕ) (cells out all : List Span) (k end : ℕ) → k < end
    → out ++ map (λ k. greatest (every n k cells)) (range_with_len k (end - k)) ≡ all
    → (out ++ greatest (every n 0 (drop k cells)) ∷ [])
    ++ map (λ k. greatest (every n k cells)) (range_with_len (k + 1) (end - (k + 1))) ≡ all
column-next n cells out all k end below is =
    append_assoc out (greatest (every n 0 (drop k cells)) ∷ []) (map (column n cells) (range_with_len (k + 1) (end - (k + 1))))
    ∙ ap (λ (span : Span). out ++ span ∷ map (column n cells) (range_with_len (k + 1) (end - (k + 1))))
    (ap greatest (sym (every-drop n k cells)))
    ∙ ap (λ numbers. out ++ map (column n cells) numbers) (sym (range-next k end below)) ∙ is

-- sums that are cut may be taken in any order
pub plus-plus : (a b c : ℕ) → plus (plus a b) c ≡ plus a (plus b c)
plus-plus a b c = grind arith

map-plus-zero : (xs : List ℕ) (b : ℕ) → map (plus 0) (map (plus b) xs) ≡ map (plus b) xs
map-plus-zero [] b = refl
map-plus-zero (x ∷ xs) b = let e : plus 0 (plus b x) ≡ plus b x = grind arith in
    ap (λ (n : ℕ). n ∷ map (plus 0) (map (plus b) xs)) e ∙ ap (λ (ns : List ℕ). plus b x ∷ ns) (map-plus-zero xs b)

map-plus-plus : (xs : List ℕ) (a b : ℕ) → map (plus (plus a b)) xs ≡ map (plus a) (map (plus b) xs)
map-plus-plus [] a b = refl
map-plus-plus (x ∷ xs) a b =
    ap (λ (n : ℕ). n ∷ map (plus (plus a b)) xs) (plus-plus a b x) ∙ ap (λ (ns : List ℕ). plus a (plus b x) ∷ ns) (map-plus-plus xs a b)

-- before the first span nothing is passed
pub positions-start : (from gap : ℕ) (spans : List Span) → map (plus 0) (positions from gap spans) ≡ positions from gap spans
positions-start from gap [] = refl
positions-start from gap (span ∷ others) = let e : plus 0 (plus from span.before) ≡ plus from span.before = grind arith in
    ap (λ (n : ℕ). n ∷ map (plus 0) (map (plus (plus (whole span) gap)) (positions from gap others))) e
    ∙ ap (λ (ns : List ℕ). plus from span.before ∷ ns) (map-plus-zero (positions from gap others) (plus (whole span) gap))

-- one more span
positions-next : (from gap passed : ℕ) (out all : List ℕ) (span : Span) (others : List Span)
    → out ++ map (plus passed) (positions from gap (span ∷ others)) ≡ all
    → (out ++ plus passed (plus from span.before) ∷ [])
    ++ map (plus (plus passed (plus (whole span) gap))) (positions from gap others) ≡ all
positions-next from gap passed out all span others is =
    append_assoc out (plus passed (plus from span.before) ∷ [])
    (map (plus (plus passed (plus (whole span) gap))) (positions from gap others))
    ∙ ap (λ (ns : List ℕ). out ++ plus passed (plus from span.before) ∷ ns)
    (map-plus-plus (positions from gap others) passed (plus (whole span) gap))
    ∙ is

pub positions-at : (from gap passed : ℕ) (out all : List ℕ) (spans : List Span) (i : ℕ) (d : Span) → i < length spans
    → out ++ map (plus passed) (positions from gap (drop i spans)) ≡ all
    → (out ++ plus passed (plus from (get_or spans i d).before) ∷ [])
    ++ map (plus (plus passed (plus (whole (get_or spans i d)) gap))) (positions from gap (drop (i + 1) spans)) ≡ all
positions-at from gap passed out all spans i d below is =
    let one : suc i ≡ i + 1 = omega arith in
    let e : drop i spans ≡ get_or spans i d ∷ drop (i + 1) spans =
    drop-cons spans i d below ∙ ap (λ (n : ℕ). get_or spans i d ∷ drop n spans) one in
    positions-next from gap passed out all (get_or spans i d) (drop (i + 1) spans)
    (ap (λ (others : List Span). out ++ map (plus passed) (positions from gap others)) (sym e) ∙ is)

-- how far a first size reaches, and the spans behind it with their gaps
abbrev pub reach : ℕ → ℕ → List Span → ℕ
reach gap size others = min (size + sum_by whole others + gap * length others) limit

reach-next : (gap end first sum count size : ℕ) → end ≡ min (first + sum + gap * count) limit
    → plus end (plus gap size) ≡ min (first + (sum + size) + gap * (count + 1)) limit
reach-next gap end first sum count size is = let e : gap * (count + 1) ≡ gap * count + gap = omega arith in rw e (grind (arith, is))

-- one more span behind the first
pub reach-at : (gap end first : ℕ) (others : List Span) (i : ℕ) (d : Span) → i < length others → end ≡ reach gap first (take i others)
    → plus end (plus gap (whole (get_or others i d))) ≡ reach gap first (take (i + 1) others)
reach-at gap end first others i d below is =
    let s : Span = get_or others i d in
    let t : List Span = take i others in
    let e : take (i + 1) others ≡ t ++ s ∷ [] = take_more others i d below in
    let a : sum_by whole (t ++ s ∷ []) ≡ sum_by whole t + whole s = sum_by-append whole t (s ∷ []) ∙ omega arith in
    let b : length (t ++ s ∷ []) ≡ length t + 1 = length-append t (s ∷ []) ∙ omega arith in
    reach-next gap end first (sum_by whole t) (length t) (whole s) is
    ∙ sym (ap (reach gap first) e ∙ ap (λ (n : ℕ). min (first + n + gap * length (t ++ s ∷ [])) limit) a
    ∙ ap (λ (n : ℕ). min (first + (sum_by whole t + whole s) + gap * n) limit) b)
