-- What holds of the cells of copies and of their rows.
use Rattle.std.specs.Prelude.{◌≡◌, ℕ, Option, Some, List, [], ◌++◌, map, filter_map, slice_get, replicate}
use Rattle.std.specs.List.{sum}
use Rattle.std.specs.Option.{option_map}
use Rattle.fixed_num.specs.Ranges.{all_found}
use Rattle.cell_value.specs.declared.cell.Cell.{Cell}
use Rattle.cell_value.specs.declared.state.Key.{Key}
use Rattle.cell_value.specs.Datum.{Datum}
use Rattle.plain_rows.specs.Rows.{AreKeys}
use Rattle.plain_facets.specs.declared.copies.DividedBy.{DividedBy}
use Rattle.plain_facets.specs.Facets.{key_of, part_of, home_among, members_from, AreDifferent, cells_of_copies, cells_with_rows, count_without_rows}

-- No two copies of a facet have the same cells, whether it crosses its fields or not, and with any order or none.
abbrev pub CopiesAreDifferent : Type 0
CopiesAreDifferent = (d : DividedBy) (rows : List Datum) → AreDifferent (cells_of_copies d rows)

-- Where no two copies have the same cells, each stands at the first place of its own.
abbrev pub EachIsAtHome : Type 0
EachIsAtHome = (copies : List (List Cell)) (k : ℕ) (key : List Cell)
    → AreDifferent copies → slice_get copies k ≡ Some key → home_among copies key ≡ k

-- The rows that belong to a copy, by their places, are the rows that have its cells; of copies with the same cells the first has them.
abbrev pub PartsAreMembers : Type 0
PartsAreMembers = (fields : List (List ℕ)) (rows : List Datum) (copies : List (List Cell)) (k : ℕ) (key : List Cell)
    → slice_get copies k ≡ Some key → home_among copies key ≡ k
    → filter_map (slice_get rows) (members_from k 0 (map (λ row. home_among copies (key_of fields row)) rows)) ≡ part_of fields key rows

-- the keys of rows, as they are read
abbrev pub keys_read : List Datum → List Key
keys_read rows = map (λ (row : Datum). row.key) rows

-- Of a list of rows, those that have some cells are a list of rows again.
abbrev pub PartsAreRows : Type 0
PartsAreRows = (fields : List (List ℕ)) (key : List Cell) (rows : List Datum) → AreKeys (keys_read rows) → AreKeys (keys_read (part_of fields key rows))

-- the sum of numbers; None where one of them isn't there
abbrev pub total : List (Option ℕ) → Option ℕ
total found = option_map sum (all_found found)

-- Where copies without rows have the same number, the numbers of all copies sum up to those of the copies with rows, and that number as often
-- as others are.
abbrev pub CopiesAreSummed : Type 0
CopiesAreSummed = (d : DividedBy) (rows : List Datum) (number : List Cell → Option ℕ) (bare : Option ℕ)
    → ((key : List Cell) → part_of d.fields key rows ≡ [] → number key ≡ bare)
    → total (map number (cells_of_copies d rows)) ≡ total (map number (cells_with_rows d rows) ++ replicate (count_without_rows d rows) bare)
