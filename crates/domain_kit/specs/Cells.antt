-- Cells as the domains of scales have them: their order, and the numbers among them.
use Rattle.std.specs.Prelude.{◌≡◌, refl, true, pos, negsuc, List, [], ◌∷◌, reverse, codes}
use Rattle.std.specs.declared.cmp.Ordering.{Ordering}
use Rattle.fixed_num.specs.Number.{million}
use Rattle.cell_value.specs.declared.cell.Cell.{Cell}
use Rattle.cell_value.specs.declared.cell.Cell.TheVariants.{Null, Flag, Number, Text, Pair}
use Rattle.cell_value.specs.Cell.{cell_cmp, same_cells}
use Rattle.tick_kit.specs.Domains.{ascending, extent_of, with_zero}
use Rattle.plain_groups.specs.Groups.{firsts}
use Rattle.plain_groups.specs.Aggregates.{numbers_among}

-- the distinct cells, by where each stands first
abbrev pub in_first_order : List Cell → List Cell
in_first_order = firsts same_cells

-- the same from the greatest cell to the least
abbrev pub descending : {X : Type 0} → (X → X → Ordering) → List X → List X
descending order cs = reverse (ascending order cs)

-- The rules at work.

-- null and cells of other kinds, some of them twice
abbrev some_cells : List Cell
some_cells = Text (codes "b") ∷ Null ∷ Number (pos 7) ∷ Text (codes "b") ∷ Flag true ∷ Null ∷ Number (negsuc 0) ∷ Text (codes "a") ∷ []

distinct_by_first_rows : in_first_order some_cells
    ≡ Text (codes "b") ∷ Null ∷ Number (pos 7) ∷ Flag true ∷ Number (negsuc 0) ∷ Text (codes "a") ∷ []
distinct_by_first_rows = refl

distinct_ascending : ascending cell_cmp some_cells
    ≡ Null ∷ Flag true ∷ Number (negsuc 0) ∷ Number (pos 7) ∷ Text (codes "a") ∷ Text (codes "b") ∷ []
distinct_ascending = refl

distinct_descending : descending cell_cmp (Number (pos 7) ∷ Null ∷ Number (pos 8) ∷ Null ∷ []) ≡ Number (pos 8) ∷ Number (pos 7) ∷ Null ∷ []
distinct_descending = refl

only_numbers_count : extent_of (numbers_among some_cells) ≡ (negsuc 0, pos 7)
only_numbers_count = refl

the_extent_of_no_number : extent_of (numbers_among (Null ∷ Pair (pos 3) (pos 4) ∷ [])) ≡ (pos 0, pos million)
the_extent_of_no_number = refl

the_extent_of_one_number : extent_of (pos 5 ∷ []) ≡ (pos 5, pos 5)
the_extent_of_one_number = refl

zero_is_taken_in : (with_zero (pos 28, pos 55) ≡ (pos 0, pos 55)) × (with_zero (negsuc 8, negsuc 4) ≡ (negsuc 8, pos 0))
zero_is_taken_in = (refl, refl)
