-- What holds of cells and of rows, whatever they are.
use Rattle.std.specs.Prelude.{◌≡◌, ◌≢◌, ◌↔◌, ℕ, List, IsTrue}
use Rattle.std.specs.declared.cmp.Ordering.TheVariants.{Equal}
use Rattle.std.specs.Cmp.{IsTotalOrder}
use Rattle.std.specs.FinMap.{get, insert}
use Rattle.cell_value.specs.declared.cell.Cell.{Cell}
use Rattle.cell_value.specs.Cell.{cell_cmp, same_cells}
use Rattle.cell_value.specs.Row.{Cells, cell_of}

-- the order of cells is total
abbrev pub OrderIsTotal : Type 0
OrderIsTotal = IsTotalOrder cell_cmp

-- cells that tie in the order are equal
abbrev pub OnlyEqualCellsTie : Type 0
OnlyEqualCellsTie = (a b : Cell) → cell_cmp a b ≡ Equal → a ≡ b

-- cells that are the same are equal, and the other way round
abbrev pub SameCellsAreEqual : Type 0
SameCellsAreEqual = (a b : Cell) → IsTrue (same_cells a b) ↔ (a ≡ b)

-- a cell that is set is read under its name
abbrev pub WhatIsSetIsRead : Type 0
WhatIsSetIsRead = (row : Cells) (name : List ℕ) (c : Cell) → cell_of (insert row name c) name ≡ c

-- every other name reads as before
abbrev pub OtherNamesStay : Type 0
OtherNamesStay = (row : Cells) (name : List ℕ) (c : Cell) (other : List ℕ) → other ≢ name → get (insert row name c) other ≡ get row other

-- rows with the same cells under each name are equal
abbrev pub AlikeRowsAreEqual : Type 0
AlikeRowsAreEqual = (a b : Cells) → ((name : List ℕ) → get a name ≡ get b name) → a ≡ b
