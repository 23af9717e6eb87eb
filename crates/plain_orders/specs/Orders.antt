-- The order of rows, and their partitions.
use Rattle.std.specs.Prelude.{◌≡◌, refl, ℕ, Bool, true, false, List, [], ◌∷◌, map, filter, pos, codes, if◌then◌else◌}
use Rattle.std.specs.declared.cmp.Ordering.{Ordering}
use Rattle.std.specs.declared.cmp.Ordering.TheVariants.{Equal}
use Rattle.std.specs.Ordering.{nat_cmp, is_lt, ordering_then}
use Rattle.cell_value.specs.declared.cell.Cell.{Cell}
use Rattle.cell_value.specs.declared.cell.Cell.TheVariants.{Null, Number}
use Rattle.cell_value.specs.declared.state.Key.{Key}
use Rattle.cell_value.specs.Cell.{cell_cmp}
use Rattle.cell_value.specs.Datum.{CellAt, Datum}
use Rattle.plain_rows.specs.declared.transforms.SortBy.{SortBy}
use Rattle.plain_groups.specs.Groups.{group_of}

-- how two rows stand by the cells of one field
abbrev pub by_field : SortBy → Datum → Datum → Ordering
by_field s x y = if s.descending then cell_cmp (y.cell s.field) (x.cell s.field) else cell_cmp (x.cell s.field) (y.cell s.field)

-- how two rows stand by several fields: the first in which they differ decides
abbrev pub by_fields : List SortBy → Datum → Datum → Ordering
by_fields [] x y = Equal
by_fields (s ∷ sort) x y = ordering_then (by_field s x y) (by_fields sort x y)

-- how two keys stand: by id, and then by branch
abbrev pub by_key : Key → Key → Ordering
by_key a b = ordering_then (nat_cmp a.id b.id) (nat_cmp a.branch b.branch)

-- how two rows stand: by the fields, with ties by key
abbrev pub row_order : List SortBy → Datum → Datum → Ordering
row_order sort x y = ordering_then (by_fields sort x y) (by_key x.key y.key)

-- an element put into a list, before the first that doesn't stand before it
abbrev pub placed : {X : Type 0} → (X → X → Ordering) → X → List X → List X
placed order x [] = x ∷ []
placed order x (y ∷ ys) = if is_lt (order y x) then y ∷ placed order x ys else x ∷ y ∷ ys

-- a list in order
abbrev pub in_order : {X : Type 0} → (X → X → Ordering) → List X → List X
in_order order [] = []
in_order order (x ∷ xs) = placed order x (in_order order xs)

abbrev pub cells_of : Datum → CellAt
cells_of row = row.cell

-- the partition of a row, in order: the rows that have its cells in the fields of `groupby`
abbrev pub partition_of : List (List ℕ) → List SortBy → List Datum → Datum → List Datum
partition_of groupby sort rows row = group_of cells_of groupby (in_order (row_order sort) rows) row

-- the rows of a list that stand before a row
abbrev pub rows_before : List SortBy → List Datum → Datum → List Datum
rows_before sort rows row = filter (λ other. is_lt (row_order sort other row)) rows

-- The rules at work.

numbers_in_order : in_order nat_cmp (3 ∷ 1 ∷ 2 ∷ 1 ∷ []) ≡ 1 ∷ 1 ∷ 2 ∷ 3 ∷ []
numbers_in_order = refl

-- a row of one number, whatever the name
abbrev row_with : ℕ → ℕ → Cell → Datum
row_with id branch cell = record { key = record { id = id; branch = branch }; cell = λ name. cell }

abbrev four_rows : List Datum
four_rows = row_with 4 0 (Number (pos 3)) ∷ row_with 5 0 (Number (pos 1)) ∷ row_with 5 1 Null ∷ row_with 6 0 (Number (pos 3)) ∷ []

abbrev key_of : Datum → Key
key_of row = row.key

abbrev key_at : ℕ → ℕ → Key
key_at id branch = record { id = id; branch = branch }

abbrev by_the_number : Bool → List SortBy
by_the_number descending = record { field = codes "v"; descending = descending } ∷ []

rising : map key_of (in_order (row_order (by_the_number false)) four_rows) ≡ key_at 5 1 ∷ key_at 5 0 ∷ key_at 4 0 ∷ key_at 6 0 ∷ []
rising = refl

falling_with_ties_by_key : map key_of (in_order (row_order (by_the_number true)) four_rows)
    ≡ key_at 4 0 ∷ key_at 6 0 ∷ key_at 5 0 ∷ key_at 5 1 ∷ []
falling_with_ties_by_key = refl

the_rows_before : map key_of (rows_before (by_the_number false)
    (partition_of [] (by_the_number false) four_rows (row_with 6 0 (Number (pos 3)))) (row_with 6 0 (Number (pos 3))))
    ≡ key_at 5 1 ∷ key_at 5 0 ∷ key_at 4 0 ∷ []
the_rows_before = refl
