-- Cells: their order, their sameness and their truth.
use Rattle.std.specs.Prelude.{◌≡◌, ℕ, ℤ, Option, Some, None, Bool, true, false, not, List, [], ◌∷◌, map, replicate, pos, negsuc, codes, refl}
use Rattle.std.specs.FinMap.{is_sorted}
use Rattle.std.specs.declared.cmp.Ordering.{Ordering}
use Rattle.std.specs.Ordering.{nat_cmp, int_cmp, bool_cmp, int_eq, ordering_then, eq_by_cmp}
use Rattle.std.specs.Cmp.Lexicographic.{slice_cmp}
use Rattle.cell_value.specs.declared.cell.Cell.{Cell}
use Rattle.cell_value.specs.declared.cell.Cell.TheVariants.{Null, Flag, Number, Text, Pair}

-- where the kinds stand in the order of cells
abbrev pub kind : Cell → ℕ
kind Null = 0
kind (Flag b) = 1
kind (Number n) = 2
kind (Text t) = 3
kind (Pair a b) = 4

-- the order of cells: first by kind; then false before true, numbers by size, texts by their bytes,
-- and pairs by their first and then by their second number
abbrev pub cell_cmp : Cell → Cell → Ordering
cell_cmp (Flag a) (Flag b) = bool_cmp a b
cell_cmp (Number a) (Number b) = int_cmp a b
cell_cmp (Text a) (Text b) = slice_cmp nat_cmp a b
cell_cmp (Pair a b) (Pair c d) = ordering_then (int_cmp a c) (int_cmp b d)
cell_cmp a b = nat_cmp (kind a) (kind b)

-- whether two cells are the same
abbrev pub same_cells : Cell → Cell → Bool
same_cells = eq_by_cmp cell_cmp

-- whether a cell counts as true: null, false, 0 and the empty text do not
abbrev pub truth : Cell → Bool
truth Null = false
truth (Flag b) = b
truth (Number n) = not (int_eq n (pos 0))
truth (Text []) = false
truth (Text (b ∷ bs)) = true
truth (Pair a b) = true

-- the number of a cell; none where it is no number
abbrev pub number_in : Cell → Option ℤ
number_in (Number n) = Some n
number_in _ = None

-- The rules at work.

-- cells of every kind, each before all that follow it
abbrev cells_in_order : List Cell
cells_in_order =
    Null ∷ Flag false ∷ Flag true ∷ Number (negsuc 0) ∷ Number (pos 0) ∷ Number (pos 7)
    ∷ Text [] ∷ Text (codes "10") ∷ Text (codes "9") ∷ Text (codes "a") ∷ Text (codes "ab") ∷ Text (codes "b")
    ∷ Pair (negsuc 4) (pos 9) ∷ Pair (pos 0) (negsuc 1) ∷ Pair (pos 0) (pos 0) ∷ Pair (pos 1) (negsuc 5) ∷ []

the_order_of_cells : is_sorted cell_cmp (map (λ cell. (cell, cell)) cells_in_order) ≡ true
the_order_of_cells = refl

each_is_the_same_as_itself : map (λ cell. same_cells cell cell) cells_in_order ≡ replicate 16 true
each_is_the_same_as_itself = refl

the_truth_of_cells : map truth cells_in_order
    ≡ false ∷ false ∷ true ∷ true ∷ false ∷ true ∷ false ∷ true ∷ true ∷ true ∷ true ∷ true ∷ true ∷ true ∷ true ∷ true ∷ []
the_truth_of_cells = refl
