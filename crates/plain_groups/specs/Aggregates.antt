-- What operations give over the cells of a group.
use Rattle.std.specs.Prelude.{◌≡◌, refl, ℕ, ◌+◌, ◌-◌, ◌*◌, ◌/◌, ◌%◌, ◌^◌, ℤ, pos, ◌+ℤ◌, ◌*ℤ◌, int_le, not, true, Option, Some, None, List}
use Rattle.std.specs.Prelude.{[], ◌∷◌, map, take, length, count_by, filter_map, slice_get, slice_index_or, codes, if◌then◌else◌}
use Rattle.std.specs.Option.{option_map, option_map_or}
use Rattle.fixed_num.specs.Number.{million, rounded, floor_quotient}
use Rattle.fixed_num.specs.Ranges.{in_range}
use Rattle.case_table.specs.Names.{operations}
use Rattle.cell_value.specs.declared.cell.Cell.{Cell}
use Rattle.cell_value.specs.declared.cell.Cell.TheVariants.{Null, Flag, Number, Text}
use Rattle.cell_value.specs.Cell.{same_cells}
use Rattle.expr_eval.specs.Numbers.{the_number, number_or_null}
use Rattle.expr_eval.specs.Builtins.{least_of, greatest_of}
use Rattle.plain_groups.specs.Groups.{firsts}

-- how many cells an operation takes
abbrev pub most_cells : ℕ
most_cells = 2 ^ 40

-- the numbers among cells, in their order
abbrev pub numbers_among : List Cell → List ℤ
numbers_among = filter_map the_number

-- the sum of numbers, however large
abbrev pub sum_of : List ℤ → ℤ
sum_of [] = pos 0
sum_of (n ∷ ns) = n +ℤ sum_of ns

-- the mean of numbers: their sum by how many there are, rounded once
abbrev pub mean_of : List ℤ → Option ℤ
mean_of [] = None
mean_of (n ∷ ns) = Some (rounded (sum_of (n ∷ ns)) (length (n ∷ ns)))

-- a number put into numbers that rise, before the first that isn't less
abbrev pub placed : ℤ → List ℤ → List ℤ
placed n [] = n ∷ []
placed n (m ∷ ms) = if int_le n m then n ∷ m ∷ ms else m ∷ placed n ms

-- numbers from the least to the greatest
abbrev pub sorted : List ℤ → List ℤ
sorted [] = []
sorted (n ∷ ns) = placed n (sorted ns)

-- the number at a place of a list that is counted in quarters of places: between two neighbours by the distances to them, rounded once
abbrev pub at_quarters : List ℤ → ℕ → ℤ
at_quarters ns quarters =
    let part = quarters % 4 in
    let low = slice_index_or ns (quarters / 4) (pos 0) in
    let high = slice_index_or ns (quarters / 4 + 1) (pos 0) in
    rounded (pos (4 - part) *ℤ low +ℤ pos part *ℤ high) 4

-- the number at so many quarters of the way from the least to the greatest number
abbrev pub quartile_of : ℕ → List ℤ → Option ℤ
quartile_of k [] = None
quartile_of k (n ∷ ns) = Some (at_quarters (sorted (n ∷ ns)) (length ns * k))

-- how many as a cell
abbrev pub count_cell : ℕ → Cell
count_cell n = Number (pos (n * million))

-- `count`: how many cells; `valid`: how many that aren't null; `missing`: how many that are null; `distinct`: how many different ones
abbrev pub count : List Cell → Option Cell
count cells = Some (count_cell (length cells))

abbrev pub valid : List Cell → Option Cell
valid cells = Some (count_cell (count_by (λ cell. not (same_cells cell Null)) cells))

abbrev pub missing : List Cell → Option Cell
missing cells = Some (count_cell (count_by (λ cell. same_cells cell Null) cells))

abbrev pub distinct : List Cell → Option Cell
distinct cells = Some (count_cell (length (firsts same_cells cells)))

-- `sum`: the sum of the numbers, 0 where there is none; nothing where it is out of range
abbrev pub sum : List Cell → Option Cell
sum cells = option_map Number (in_range (sum_of (numbers_among cells)))

-- what is computed of the numbers; null where there is none
abbrev pub of_numbers : (List ℤ → Option ℤ) → List Cell → Option Cell
of_numbers f cells = Some (number_or_null (f (numbers_among cells)))

-- what each operation gives over the cells of a group, beside its name, in the order of the codes
unfoldable pub aggregates : List (List ℕ × (List Cell → Option Cell))
aggregates =
    (codes "count", count)
    ∷ (codes "valid", valid)
    ∷ (codes "missing", missing)
    ∷ (codes "distinct", distinct)
    ∷ (codes "sum", sum)
    ∷ (codes "mean", of_numbers mean_of)
    ∷ (codes "average", of_numbers mean_of)
    ∷ (codes "min", of_numbers least_of)
    ∷ (codes "max", of_numbers greatest_of)
    ∷ (codes "median", of_numbers (quartile_of 2))
    ∷ (codes "q1", of_numbers (quartile_of 1))
    ∷ (codes "q3", of_numbers (quartile_of 3))
    ∷ []

-- what the operation of a code gives over the cells of a group, nothing where it overflows; null where the code is of no aggregate
abbrev pub aggregate_of : ℕ → List Cell → Option Cell
aggregate_of op cells = option_map_or (λ (entry : List ℕ × (List Cell → Option Cell)). entry.1 cells) (slice_get aggregates op) (Some Null)

-- The rules at work.

-- the names are the first of the table of codes; the others are of windows alone
the_names_of_aggregates : map (λ (entry : List ℕ × (List Cell → Option Cell)). entry.0) aggregates ≡ take 12 operations
unfolding aggregates
the_names_of_aggregates = refl

-- 10, 1, 4 and 2, and other cells between them
abbrev some_cells : List Cell
some_cells =
    Number (pos 10000000) ∷ Null ∷ Number (pos 1000000) ∷ Number (pos 4000000) ∷ Text (codes "7") ∷ Null ∷ Flag true ∷ Number (pos 2000000) ∷ []

the_first_quartile : of_numbers (quartile_of 1) some_cells ≡ Some (Number (pos 1750000))
unfolding rounded floor_quotient
the_first_quartile = refl

the_median : of_numbers (quartile_of 2) some_cells ≡ Some (Number (pos 3000000))
unfolding rounded floor_quotient
the_median = refl

the_third_quartile : of_numbers (quartile_of 3) some_cells ≡ Some (Number (pos 5500000))
unfolding rounded floor_quotient
the_third_quartile = refl

the_mean : of_numbers mean_of some_cells ≡ Some (Number (pos 4250000))
unfolding rounded floor_quotient
the_mean = refl

four_counts : count some_cells ∷ valid some_cells ∷ missing some_cells ∷ distinct some_cells ∷ []
    ≡ Some (count_cell 8) ∷ Some (count_cell 6) ∷ Some (count_cell 2) ∷ Some (count_cell 7) ∷ []
four_counts = refl

of_no_number : sum (Null ∷ []) ∷ of_numbers mean_of (Null ∷ []) ∷ of_numbers greatest_of [] ∷ of_numbers (quartile_of 2) [] ∷ []
    ≡ Some (Number (pos 0)) ∷ Some Null ∷ Some Null ∷ Some Null ∷ []
of_no_number = refl
