-- Rows: finite maps from names, as bytes, to cells.
use Rattle.std.specs.Prelude.{◌≡◌, ℕ, List, [], ◌∷◌, unwrap_or, fold, pos, codes}
use Rattle.std.proofs.Common.{ap}
use Rattle.std.specs.Ordering.{nat_cmp}
use Rattle.std.specs.Cmp.Lexicographic.{slice_cmp, nat_list_cmp_total}
use Rattle.std.specs.FinMap as map
use Rattle.cell_value.specs.declared.cell.Cell.{Cell}
use Rattle.cell_value.specs.declared.cell.Cell.TheVariants.{Null, Number, Text}

-- the cells that a row has under its names
abbrev pub Cells : Type 0
Cells = map.FinMap (slice_cmp nat_cmp) Cell

-- the cell under a name: an absent name reads as null
abbrev pub cell_of : Cells → List ℕ → Cell
cell_of row name = unwrap_or (map.get row name) Null

-- the row that is left after each cell is set under its name in turn, so that of several under one name the last holds
abbrev pub row_of : List (List ℕ × Cell) → Cells
row_of entries = fold (λ row entry. map.insert row entry.0 entry.1) map.empty entries

-- The rules at work.

no_cell_reads_as_null : cell_of map.empty (codes "a") ≡ Null
no_cell_reads_as_null = ap (λ found. unwrap_or found Null) (map.get-empty (slice_cmp nat_cmp) (codes "a"))

-- two cells under one name
abbrev two_cells : List (List ℕ × Cell)
two_cells = (codes "a", Number (pos 1)) ∷ (codes "a", Text (codes "b")) ∷ []

the_last_cell_holds : cell_of (row_of two_cells) (codes "a") ≡ Text (codes "b")
the_last_cell_holds =
    ap (λ found. unwrap_or found Null)
    (map.get-insert nat_list_cmp_total (map.insert map.empty (codes "a") (Number (pos 1))) (codes "a") (Text (codes "b")) (codes "a"))
