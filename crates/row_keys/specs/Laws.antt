-- What holds of keys of rows.
use Rattle.std.specs.Prelude.{◌≡◌, refl, ℕ, true, false, List, [], ◌∷◌, map, pos, codes, if◌then◌else◌}
use Rattle.std.specs.declared.cmp.Ordering.{Ordering}
use Rattle.std.specs.declared.cmp.Ordering.TheVariants.{Less, Equal, Greater}
use Rattle.std.specs.Ordering.{eq_by_cmp}
use Rattle.std.specs.Cmp.{IsTotalOrder}
use Rattle.std.specs.Cmp.Lexicographic.{slice_cmp}
use Rattle.std.specs.Str.{bytes_eq}
use Rattle.cell_value.specs.declared.cell.Cell.{Cell}
use Rattle.cell_value.specs.declared.cell.Cell.TheVariants.{Null, Number, Text}
use Rattle.cell_value.specs.declared.state.Key.{Key}
use Rattle.cell_value.specs.contracts.state.KeyOrd.TheImpl as key_order
use Rattle.cell_value.specs.Cell.{cell_cmp}
use Rattle.cell_value.specs.Datum.{CellAt, Datum}
use Rattle.plain_rows.specs.declared.transforms.SortBy.{SortBy}
use Rattle.plain_groups.specs.Groups.{alike}
use Rattle.plain_orders.specs.Orders.{by_fields, by_key}

-- the keys that rows have by themselves stand in maps as rows that tie stand
abbrev pub KeysStandAsTies : Type 0
KeysStandAsTies = (a b : Key) → (key_order.ghosts).cmp a b ≡ by_key a b

-- how lists of cells stand: the first cell in which they differ decides
abbrev pub cells_cmp : List Cell → List Cell → Ordering
cells_cmp = slice_cmp cell_cmp

-- that order is total
abbrev pub OrderIsTotal : Type 0
OrderIsTotal = IsTotalOrder cells_cmp

-- lists of cells that tie in it are equal
abbrev pub OnlyEqualKeysTie : Type 0
OnlyEqualKeysTie = (a b : List Cell) → cells_cmp a b ≡ Equal → a ≡ b

-- the cells of a row in some fields
abbrev pub key_in : List (List ℕ) → CellAt → List Cell
key_in fields cells = map cells fields

-- two rows have one key exactly where they have the same cell in each of its fields
abbrev pub AlikeRowsHaveOneKey : Type 0
AlikeRowsHaveOneKey =
    (fields : List (List ℕ)) (x y : CellAt) → eq_by_cmp cells_cmp (key_in fields x) (key_in fields y) ≡ alike (λ (row : CellAt). row) fields x y

-- fields as an order of rows, each with the least cell first
abbrev pub rising : List (List ℕ) → List SortBy
rising fields = map (λ field. record { field = field; descending = false }) fields

-- the keys of rows stand as the rows do by their fields
abbrev pub KeysStandAsRows : Type 0
KeysStandAsRows =
    (fields : List (List ℕ)) (x y : Datum) → cells_cmp (key_in fields x.cell) (key_in fields y.cell) ≡ by_fields (rising fields) x y

-- The rules at work.

-- a row with a number under `n` and a text under every other name
abbrev row_of : Cell → Cell → CellAt
row_of n t name = if bytes_eq name (codes "n") then n else t

abbrev n_and_t : List (List ℕ)
n_and_t = codes "n" ∷ codes "t" ∷ []

the_first_cell_that_differs : cells_cmp (key_in n_and_t (row_of (Number (pos 1)) (Text (codes "b"))))
    (key_in n_and_t (row_of (Number (pos 2)) (Text (codes "a")))) ≡ Less
the_first_cell_that_differs = refl

null_stands_first : cells_cmp (key_in n_and_t (row_of (Number (pos 1)) (Text (codes "b"))))
    (key_in n_and_t (row_of (Number (pos 1)) Null)) ≡ Greater
null_stands_first = refl

one_key : eq_by_cmp cells_cmp (key_in (codes "n" ∷ []) (row_of Null (Text (codes "a")))) (key_in (codes "n" ∷ []) (row_of Null Null)) ≡ true
one_key = refl
