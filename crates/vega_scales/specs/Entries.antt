-- What ordinal scales range over.
use Rattle.std.specs.Prelude.{◌≡◌, refl, ℕ, List, [], ◌∷◌, map, codes}
use Rattle.cell_value.specs.declared.cell.Cell.{Cell}
use Rattle.cell_value.specs.declared.cell.Cell.TheVariants.{Null, Text}
use Rattle.vega_spec.specs.declared.scales.Range.{Range}
use Rattle.vega_spec.specs.declared.scales.Range.TheVariants.{Cells, Width, Height, Category, Ramp, Symbol}
use Rattle.domain_kit.specs.Entries.{category_colors, symbol_shapes, ramp_entries}

-- the entries of the range of an ordinal scale over n cells; places have none
abbrev pub entries_of : Range → ℕ → List Cell
entries_of (Cells cells) n = cells
entries_of Width n = []
entries_of Height n = []
entries_of Category n = map Text category_colors
entries_of Ramp n = ramp_entries n
entries_of Symbol n = map Text symbol_shapes

-- The rules at work.

a_list_as_it_is : entries_of (Cells (Null ∷ Text (codes "red") ∷ [])) 9 ≡ Null ∷ Text (codes "red") ∷ []
a_list_as_it_is = refl

the_shapes : entries_of Symbol 2
    ≡ Text (codes "circle") ∷ Text (codes "square") ∷ Text (codes "triangle-up") ∷ Text (codes "diamond") ∷ []
unfolding symbol_shapes
the_shapes = refl
