-- What holds of groups and sums, whatever the rows: what a row more or less changes.
use Rattle.std.specs.Prelude.{◌≡◌, ℕ, ℤ, ◌+ℤ◌, true, List, [], ◌∷◌, ◌++◌, if◌then◌else◌}
use Rattle.cell_value.specs.Datum.{CellAt, Datum}
use Rattle.plain_groups.specs.Groups.{alike, group_of}
use Rattle.plain_groups.specs.Aggregates.{sum_of}

abbrev cells_of : Datum → CellAt
cells_of row = row.cell

-- a row more in a list is a row more in the groups of the rows that it is alike, between the same rows, and changes no other
abbrev pub OneRowMore : Type 0
OneRowMore = (fields : List (List ℕ)) (before behind : List Datum) (new row : Datum)
    → group_of cells_of fields (before ++ new ∷ behind) row
    ≡ group_of cells_of fields before row
    ++ ((if alike cells_of fields row new then new ∷ [] else []) ++ group_of cells_of fields behind row)

-- the group of a row in a list is what it is in the parts of the list
abbrev pub GroupsOfParts : Type 0
GroupsOfParts = (fields : List (List ℕ)) (front back : List Datum) (row : Datum)
    → group_of cells_of fields (front ++ back) row ≡ group_of cells_of fields front row ++ group_of cells_of fields back row

-- rows that are alike a third are alike, so that the groups of rows that aren't alike have no row in common
abbrev pub GroupsAreApart : Type 0
GroupsAreApart = (fields : List (List ℕ)) (a b common : Datum) → alike cells_of fields a common ≡ true
    → alike cells_of fields b common ≡ true → alike cells_of fields a b ≡ true

-- the sum of numbers is that of their parts, wherever they are split
abbrev pub SumsOfParts : Type 0
SumsOfParts = (front back : List ℤ) → sum_of (front ++ back) ≡ sum_of front +ℤ sum_of back
