-- The table of builtins.
use Rattle.std.specs.Prelude.{ℕ, List, [], ◌∷◌, Option, Some, if◌then◌else◌, ◌==◌, slice_get, codes, map, ◌≡◌, refl}
use Rattle.std.specs.Option.{option_map_or}
use Rattle.case_table.specs.Names as names
use Rattle.case_table.specs.declared.unit.PartOf.TheVariants as part
use Rattle.cell_value.specs.declared.cell.Cell.{Cell}
use Rattle.cell_value.specs.declared.cell.Cell.TheVariants.{Null}
use Rattle.cell_value.specs.Cell.{truth}
use Rattle.fixed_num.specs.Ranges.{◌>>=◌, all_found}
use Rattle.expr_eval.specs.Numbers.{is_number, is_text, is_flag}
use Rattle.expr_eval.specs.Builtins.{test_of, is_valid, as_number, as_text, as_date, of_number, size, ceiling, floor, square_root, nearest}
use Rattle.expr_eval.specs.Builtins.{least_cell, greatest_cell, clamped, choice, within, length_of, space, part_in, instant}

-- what each builtin gives for the values of its arguments, beside its name, in the order of the codes
unfoldable pub builtin_table : List (List ℕ × (List Cell → Option Cell))
builtin_table =
    (codes "isValid", test_of is_valid)
    ∷ (codes "isNumber", test_of is_number)
    ∷ (codes "isString", test_of is_text)
    ∷ (codes "isBoolean", test_of is_flag)
    ∷ (codes "toNumber", as_number)
    ∷ (codes "toString", as_text)
    ∷ (codes "toDate", as_date)
    ∷ (codes "abs", of_number size)
    ∷ (codes "ceil", of_number ceiling)
    ∷ (codes "floor", of_number floor)
    ∷ (codes "sqrt", of_number square_root)
    ∷ (codes "round", of_number nearest)
    ∷ (codes "min", least_cell)
    ∷ (codes "max", greatest_cell)
    ∷ (codes "clamp", clamped)
    ∷ (codes "if", choice)
    ∷ (codes "inrange", within)
    ∷ (codes "length", length_of)
    ∷ (codes "bandspace", space)
    ∷ (codes "year", part_in part.Year)
    ∷ (codes "quarter", part_in part.Quarter)
    ∷ (codes "month", part_in part.Month)
    ∷ (codes "date", part_in part.Date)
    ∷ (codes "day", part_in part.Day)
    ∷ (codes "hours", part_in part.Hours)
    ∷ (codes "minutes", part_in part.Minutes)
    ∷ (codes "seconds", part_in part.Seconds)
    ∷ (codes "milliseconds", part_in part.Milliseconds)
    ∷ (codes "utcyear", part_in part.Year)
    ∷ (codes "utcquarter", part_in part.Quarter)
    ∷ (codes "utcmonth", part_in part.Month)
    ∷ (codes "utcdate", part_in part.Date)
    ∷ (codes "utcday", part_in part.Day)
    ∷ (codes "utchours", part_in part.Hours)
    ∷ (codes "utcminutes", part_in part.Minutes)
    ∷ (codes "utcseconds", part_in part.Seconds)
    ∷ (codes "utcmilliseconds", part_in part.Milliseconds)
    ∷ (codes "utc", instant)
    ∷ (codes "datetime", instant)
    ∷ []

-- the names are those of the table of codes
the_names_of_builtins : map (λ (entry : List ℕ × (List Cell → Option Cell)). entry.0) builtin_table ≡ names.builtins
unfolding builtin_table
the_names_of_builtins = refl

-- what the builtin of a code gives; null where no builtin has the code
abbrev pub builtin : ℕ → List Cell → Option Cell
builtin code args = option_map_or (λ (entry : List ℕ × (List Cell → Option Cell)). entry.1 args) (slice_get builtin_table code) (Some Null)

-- the code of `if`, the one builtin that leaves an argument out
abbrev pub code_of_if : ℕ
code_of_if = 15

-- one of two outcomes, by the value of a test; the other isn't needed
abbrev pub chosen : Option Cell → Option Cell → Option Cell → Option Cell
chosen test first second = test >>= λ value. if truth value then first else second

-- `if`, of what becomes of its arguments; of another number of arguments null
abbrev pub lazy_choice : List (Option Cell) → Option Cell
lazy_choice [] = Some Null
lazy_choice (a ∷ []) = Some Null
lazy_choice (a ∷ b ∷ []) = Some Null
lazy_choice (test ∷ first ∷ second ∷ []) = chosen test first second
lazy_choice (a ∷ b ∷ c ∷ d ∷ more) = Some Null

-- any other builtin, of what becomes of its arguments, each of which it needs
abbrev pub of_values : ℕ → List (Option Cell) → Option Cell
of_values code outcomes = all_found outcomes >>= builtin code

-- what a call gives for what becomes of its arguments
abbrev pub called : ℕ → List (Option Cell) → Option Cell
called code outcomes = if code == code_of_if then lazy_choice outcomes else of_values code outcomes
