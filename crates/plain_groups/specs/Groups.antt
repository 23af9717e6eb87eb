-- Groups: the rows that have the same cells.
use Rattle.std.specs.Prelude.{◌≡◌, refl, ℕ, ◌==◌, Bool, List, [], ◌∷◌, ◌++◌, filter, if◌then◌else◌}
use Rattle.std.specs.List.{list_any, list_all}
use Rattle.cell_value.specs.Cell.{same_cells}
use Rattle.cell_value.specs.Datum.{CellAt}

-- the elements that are like none before them, where others stand before them all
abbrev pub firsts_behind : {X : Type 0} → (X → X → Bool) → List X → List X → List X
firsts_behind alike before [] = []
firsts_behind alike before (x ∷ xs) =
    let later = firsts_behind alike (before ++ x ∷ []) xs in
    if list_any (λ y. alike y x) before then later else x ∷ later

-- the first of the elements that are like each other, in their order
abbrev pub firsts : {X : Type 0} → (X → X → Bool) → List X → List X
firsts alike xs = firsts_behind alike [] xs

-- whether two rows have the same cell in each of the fields
abbrev pub alike : {X : Type 0} → (X → CellAt) → List (List ℕ) → X → X → Bool
alike cells fields x y = list_all (λ field. same_cells (cells x field) (cells y field)) fields

-- the group of a row: the rows that have its cells in the fields
abbrev pub group_of : {X : Type 0} → (X → CellAt) → List (List ℕ) → List X → X → List X
group_of cells fields rows x = filter (alike cells fields x) rows

-- The rules at work.

groups_stand_by_their_first_rows : firsts (λ m n. m == n) (3 ∷ 1 ∷ 3 ∷ 2 ∷ 1 ∷ []) ≡ 3 ∷ 1 ∷ 2 ∷ []
groups_stand_by_their_first_rows = refl
