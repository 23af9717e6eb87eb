-- The least and the greatest number of a field.
use Rattle.std.specs.Prelude.{◌≡◌, refl, ℕ, ℤ, pos, neg_ℤ, Option, Some, None, List, [], ◌∷◌, fold}
use Rattle.std.specs.List.{filter_map}
use Rattle.std.specs.Int.{int_min, int_max}
use Rattle.cell_value.specs.Datum.{CellAt}
use Rattle.cell_value.specs.Cell.{number_in}

-- the numbers that rows read under a name
abbrev pub numbers_of : {X : Type 0} → (X → CellAt) → List ℕ → List X → List ℤ
numbers_of cells name rows = filter_map (λ row. number_in (cells row name)) rows

-- the least and the greatest of some numbers, none where there is no number
abbrev pub extent_of : List ℤ → Option (ℤ × ℤ)
extent_of [] = None
extent_of (n ∷ ns) = Some (fold int_min n ns, fold int_max n ns)

-- The rules at work.

the_extent_of_three : extent_of (pos 3 ∷ neg_ℤ (pos 1) ∷ pos 10 ∷ []) ≡ Some (neg_ℤ (pos 1), pos 10)
the_extent_of_three = refl

no_extent_of_nothing : extent_of [] ≡ None
no_extent_of_nothing = refl
