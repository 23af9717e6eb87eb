-- What the columns and rows of a grid take up, and where its cells stand.
use Rattle.std.specs.Prelude.{◌≡◌, refl, ℕ, zero, suc, ◌+◌, ◌-◌, ◌*◌, min, max, List, [], ◌∷◌, take, drop, length, map, flat_map, fold}
use Rattle.std.specs.List.{range_with_len, sum_by}
use Rattle.fixed_num.specs.Number.{limit}
use Rattle.view_layout.specs.declared.spans.Span.{Span}
use Rattle.view_layout.specs.Lengths.{plus}

-- the greater extents of two spans
abbrev pub larger : Span → Span → Span
larger a b = record { before = max a.before b.before; behind = max a.behind b.behind }

-- the greatest extents of some spans
abbrev pub greatest : List Span → Span
greatest spans = fold larger (record { before = 0; behind = 0 }) spans

-- what a span takes up from edge to edge
abbrev pub whole : Span → ℕ
whole span = plus span.before span.behind

-- every n-th of some elements, from the one at k on
abbrev pub every : {X : Type 0} → ℕ → ℕ → List X → List X
every n k [] = []
every n zero (x ∷ xs) = x ∷ every n (n - 1) xs
every n (suc k) (x ∷ xs) = every n k xs

-- elements n by n, in at most so many groups; the last may have fewer
abbrev pub groups_within : {X : Type 0} → ℕ → ℕ → List X → List (List X)
groups_within zero n xs = []
groups_within (suc most) n [] = []
groups_within (suc most) n (x ∷ xs) = take n (x ∷ xs) ∷ groups_within most n (drop n (x ∷ xs))

-- elements n by n
abbrev pub groups_of : {X : Type 0} → ℕ → List X → List (List X)
groups_of n xs = groups_within (length xs) n xs

-- the columns of a grid of n columns: each has the greatest extents of the cells one below the other
abbrev pub columns_of : ℕ → List Span → List Span
columns_of n cells = map (λ k. greatest (every n k cells)) (range_with_len 0 (min n (length cells)))

-- its rows: each has the greatest extents of the cells side by side
abbrev pub rows_of : ℕ → List Span → List Span
rows_of n cells = map greatest (groups_of n cells)

-- where the plots of columns or rows begin: the first stands behind its extent, and the others behind the first and the gap
abbrev pub positions : ℕ → ℕ → List Span → List ℕ
positions from gap [] = []
positions from gap (span ∷ others) = plus from span.before ∷ map (plus (plus (whole span) gap)) (positions from gap others)

-- how far columns or rows reach, with the gaps between them
abbrev pub extent : ℕ → List Span → ℕ
extent gap spans = min (sum_by whole spans + gap * (length spans - 1)) limit

-- the corners of the cells of a row
abbrev pub row_corners : List ℕ → ℕ → List (ℕ × ℕ)
row_corners xs y = map (λ x. (x, y)) xs

-- the corners of the cells of a grid, row after row
abbrev pub corners_of : List ℕ → List ℕ → List (ℕ × ℕ)
corners_of xs ys = flat_map (row_corners xs) ys

-- The rules at work.

abbrev span : ℕ → ℕ → Span
span before behind = record { before = before; behind = behind }

the_second_of_three_columns : every {X = ℕ} 3 1 (0 ∷ 1 ∷ 2 ∷ 3 ∷ 4 ∷ []) ≡ 1 ∷ 4 ∷ []
the_second_of_three_columns = refl

a_last_row_that_is_shorter : groups_of {X = ℕ} 2 (0 ∷ 1 ∷ 2 ∷ []) ≡ (0 ∷ 1 ∷ []) ∷ (2 ∷ []) ∷ []
a_last_row_that_is_shorter = refl

two_columns : columns_of 2 (span 10 50 ∷ span 20 35 ∷ span 5 60 ∷ []) ≡ span 10 60 ∷ span 20 35 ∷ []
two_columns = refl

as_many_columns_as_cells : columns_of 7 (span 10 50 ∷ span 20 35 ∷ []) ≡ span 10 50 ∷ span 20 35 ∷ []
as_many_columns_as_cells = refl

two_rows : rows_of 2 (span 10 50 ∷ span 20 35 ∷ span 5 60 ∷ []) ≡ span 20 50 ∷ span 5 60 ∷ []
two_rows = refl

plots_behind_their_extents : positions 0 20 (span 10 50 ∷ span 20 35 ∷ []) ≡ 10 ∷ 100 ∷ []
plots_behind_their_extents = refl

the_gap_stands_between : extent 20 (span 10 50 ∷ span 20 35 ∷ []) ≡ 135
the_gap_stands_between = refl

no_columns_reach_nowhere : extent 20 [] ≡ 0
no_columns_reach_nowhere = refl

the_corners_of_two_rows : corners_of (1 ∷ 2 ∷ []) (5 ∷ 6 ∷ []) ≡ (1, 5) ∷ (2, 5) ∷ (1, 6) ∷ (2, 6) ∷ []
the_corners_of_two_rows = refl
