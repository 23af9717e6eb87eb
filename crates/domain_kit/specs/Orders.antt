-- The order in which the cells of a discrete domain stand.
use Rattle.std.specs.Prelude.{◌≡◌, refl, ℕ, pos, Bool, true, false, Option, Some, List, [], ◌∷◌, map, filter, flat_map, codes}
use Rattle.std.specs.Prelude.{if◌then◌else◌}
use Rattle.std.specs.Option.{option_map}
use Rattle.fixed_num.specs.Ranges.{all_found}
use Rattle.case_table.specs.Names.{index_of, operations}
use Rattle.cell_value.specs.declared.cell.Cell.{Cell}
use Rattle.cell_value.specs.declared.cell.Cell.TheVariants.{Null, Number, Text}
use Rattle.cell_value.specs.Cell.{cell_cmp, same_cells}
use Rattle.tick_kit.specs.Domains.{ascending}
use Rattle.plain_groups.specs.Aggregates.{aggregate_of, aggregates}
use Rattle.domain_kit.specs.declared.keyed.Entry.{Entry}
use Rattle.domain_kit.specs.Cells.{descending}

-- the distinct cells in a direction
abbrev pub in_direction : Bool → List Cell → List Cell
in_direction descends cells = if descends then descending cell_cmp cells else ascending cell_cmp cells

-- a value under a key
abbrev pub entry : Cell → Cell → Entry
entry key value = record { key = key; value = value }

-- the keys of entries
abbrev pub keys_of : List Entry → List Cell
keys_of entries = map (λ (entry : Entry). entry.key) entries

-- the values that stand under a key, in the order of the entries
abbrev pub values_under : List Entry → Cell → List Cell
values_under entries key = map (λ (entry : Entry). entry.value) (filter (λ (entry : Entry). same_cells key entry.key) entries)

-- a cell under what an operation gives over its values; None where that overflows
abbrev pub ranked : ℕ → (Cell → List Cell) → Cell → Option Entry
ranked op values cell = option_map (λ rank. entry rank cell) (aggregate_of op (values cell))

-- each distinct key, ascending, under what an operation gives over its values; None where one of these overflows
abbrev pub all_ranked : ℕ → List Entry → Option (List Entry)
all_ranked op entries = all_found (map (ranked op (values_under entries)) (ascending cell_cmp (keys_of entries)))

-- ranked cells by their ranks in a direction; cells of one rank stay as they stand
abbrev pub by_rank : Bool → List Entry → List Cell
by_rank descends ranks = flat_map (values_under ranks) (in_direction descends (keys_of ranks))

-- The distinct keys by what an operation gives over the values of each, in a direction; keys for which it gives the same stand ascending.
-- None where it overflows for one of them.
abbrev pub by_operation : Bool → ℕ → List Entry → Option (List Cell)
by_operation descends op entries = option_map (by_rank descends) (all_ranked op entries)

-- The rules at work.

-- a: 5, then 1; b: 4, then 2; null: 7; c: nothing
abbrev four_keys : List Entry
four_keys =
    entry (Text (codes "c")) Null ∷ entry (Text (codes "b")) (Number (pos 4)) ∷ entry (Text (codes "a")) (Number (pos 5))
    ∷ entry Null (Number (pos 7)) ∷ entry (Text (codes "a")) (Number (pos 1)) ∷ entry (Text (codes "b")) (Number (pos 2)) ∷ []

the_values_of_a_key : values_under four_keys (Text (codes "a")) ≡ Number (pos 5) ∷ Number (pos 1) ∷ []
the_values_of_a_key = refl

-- the codes of `sum` and `max`
abbrev sum : ℕ
sum = 4

abbrev max : ℕ
max = 8

the_codes_of_two_operations : (index_of operations (codes "sum") ≡ Some sum) × (index_of operations (codes "max") ≡ Some max)
the_codes_of_two_operations = (refl, refl)

equal_sums_ascending : by_operation false sum four_keys
    ≡ Some (Text (codes "c") ∷ Text (codes "a") ∷ Text (codes "b") ∷ Null ∷ [])
unfolding aggregates
equal_sums_ascending = refl

equal_sums_ascending_in_either_direction : by_operation true sum four_keys
    ≡ Some (Null ∷ Text (codes "a") ∷ Text (codes "b") ∷ Text (codes "c") ∷ [])
unfolding aggregates
equal_sums_ascending_in_either_direction = refl

no_number_before_numbers : by_operation false max four_keys
    ≡ Some (Text (codes "c") ∷ Text (codes "b") ∷ Text (codes "a") ∷ Null ∷ [])
unfolding aggregates
no_number_before_numbers = refl
