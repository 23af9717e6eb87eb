-- What builtins give for the values of their arguments.
use Rattle.std.specs.Prelude.{ℤ, pos, ◌+ℤ◌, int_lt, int_le, unsigned_abs, ℕ, ◌+◌, ◌*◌, nat_lt, nat_le, ◌&&◌, not, Bool, List}
use Rattle.std.specs.Prelude.{[], ◌∷◌, fold, count_by, Option, Some, None, if◌then◌else◌, slice_get}
use Rattle.std.specs.Int.{int_min, int_max}
use Rattle.std.specs.Option.{option_map_or}
use Rattle.std.specs.Str.{chars}
use Rattle.fixed_num.specs.Number.{million, floored, ceiled, root_of}
use Rattle.case_table.specs.declared.unit.PartOf.{PartOf}
use Rattle.time_calc.specs.Parts.{part}
use Rattle.time_calc.specs.Texts.{read_instant}
use Rattle.time_calc.specs.Datetime.{instant_of}
use Rattle.cell_value.specs.declared.cell.Cell.{Cell}
use Rattle.cell_value.specs.declared.cell.Cell.TheVariants.{Null, Flag, Number, Text, Pair}
use Rattle.cell_value.specs.Cell.{truth}
use Rattle.cell_value.specs.Display.{display_of}
use Rattle.fixed_num.specs.Ranges.{◌>>=◌}
use Rattle.fixed_num.specs.Bands.{space_of}
use Rattle.expr_eval.specs.Ranges.{number}
use Rattle.expr_eval.specs.Operations.{flag_or_null}
use Rattle.expr_eval.specs.Numbers.{is_null, the_number, the_text, the_pair, else_null, cell_number, number_or_null}

-- a builtin of one argument; of more or none null
abbrev pub of_one : (Cell → Option Cell) → List Cell → Option Cell
of_one f [] = Some Null
of_one f (a ∷ []) = f a
of_one f (a ∷ b ∷ more) = Some Null

-- the one argument, where it is a number
abbrev pub one_number : List Cell → Option ℤ
one_number [] = None
one_number (a ∷ []) = the_number a
one_number (a ∷ b ∷ more) = None

-- a builtin of one number; of other arguments null
abbrev pub of_number : (ℤ → Option Cell) → List Cell → Option Cell
of_number f args = else_null (one_number args) f

-- `isValid`, `isNumber`, `isString` and `isBoolean`
abbrev pub test_of : (Cell → Bool) → List Cell → Option Cell
test_of holds = of_one (λ a. Some (Flag (holds a)))

abbrev pub is_valid : Cell → Bool
is_valid a = not (is_null a)

-- `toNumber`; null where the cell stands for no number
abbrev pub as_number : List Cell → Option Cell
as_number = of_one (λ a. Some (number_or_null (cell_number a)))

-- `toString`
abbrev pub as_text : List Cell → Option Cell
as_text = of_one (λ a. Some (Text (display_of a)))

-- `toDate`: a number itself, and the instant that a text tells; null where it tells none
abbrev pub date_in : Cell → Option ℤ
date_in Null = None
date_in (Flag b) = None
date_in (Number n) = Some n
date_in (Text t) = read_instant t
date_in (Pair a b) = None

abbrev pub as_date : List Cell → Option Cell
as_date = of_one (λ a. Some (number_or_null (date_in a)))

-- `abs`
abbrev pub size : ℤ → Option Cell
size n = number (pos (unsigned_abs n))

-- `ceil` and `floor`: the nearest whole number not below, and not above
abbrev pub ceiling : ℤ → Option Cell
ceiling n = number (ceiled n (pos million))

abbrev pub floor : ℤ → Option Cell
floor n = number (floored n (pos million))

-- `round`: the floor of the number and a half
abbrev pub nearest : ℤ → Option Cell
nearest n = number (floored (n +ℤ pos 500000) (pos million))

-- `sqrt`: null of a negative number
abbrev pub square_root : ℤ → Option Cell
square_root n = Some (if int_lt n (pos 0) then Null else Number (root_of n))

-- a part of an instant; null out of the range of instants
abbrev pub part_in : PartOf → List Cell → Option Cell
part_in p = of_number (λ at. Some (number_or_null (part at p)))

-- the argument at a place, as a number; another number where the argument is missing, and none where it is no number
abbrev pub number_at : List Cell → ℕ → ℤ → Option ℤ
number_at args place missing = option_map_or the_number (slice_get args place) (Some missing)

-- the instant of a year, a month, and a date, hours, minutes, seconds and milliseconds, which may be missing
abbrev pub instant_in : List Cell → Option ℤ
instant_in args = do
  year ← number_at args 0 (pos 0)
  month ← number_at args 1 (pos 0)
  date ← number_at args 2 (pos million)
  hours ← number_at args 3 (pos 0)
  minutes ← number_at args 4 (pos 0)
  seconds ← number_at args 5 (pos 0)
  milliseconds ← number_at args 6 (pos 0)
  instant_of year month date hours minutes seconds milliseconds

-- `utc` and `datetime`; null where there is no such instant
abbrev pub instant : List Cell → Option Cell
instant args = Some (number_or_null (instant_in args))

-- all arguments, where each is a number
abbrev pub numbers_alone : List Cell → Option (List ℤ)
numbers_alone [] = Some []
numbers_alone (a ∷ more) = the_number a >>= λ n. numbers_alone more >>= λ ns. Some (n ∷ ns)

-- the least and the greatest of numbers
abbrev pub least_of : List ℤ → Option ℤ
least_of [] = None
least_of (n ∷ ns) = Some (fold int_min n ns)

abbrev pub greatest_of : List ℤ → Option ℤ
greatest_of [] = None
greatest_of (n ∷ ns) = Some (fold int_max n ns)

-- the same of arguments that are numbers alone
abbrev pub least_among : List Cell → Option ℤ
least_among args = numbers_alone args >>= least_of

abbrev pub greatest_among : List Cell → Option ℤ
greatest_among args = numbers_alone args >>= greatest_of

-- `min` and `max`; null where an argument is no number
abbrev pub least_cell : List Cell → Option Cell
least_cell args = Some (number_or_null (least_among args))

abbrev pub greatest_cell : List Cell → Option Cell
greatest_cell args = Some (number_or_null (greatest_among args))

-- three numbers
abbrev pub three_numbers : List Cell → Option (ℤ × ℤ × ℤ)
three_numbers [] = None
three_numbers (a ∷ []) = None
three_numbers (a ∷ b ∷ []) = None
three_numbers (a ∷ b ∷ c ∷ []) = the_number a >>= λ x. the_number b >>= λ y. the_number c >>= λ z. Some (x, y, z)
three_numbers (a ∷ b ∷ c ∷ d ∷ more) = None

-- `clamp` of a number between two others
abbrev pub clamped : List Cell → Option Cell
clamped args = else_null (three_numbers args) (λ n. Some (Number (int_max n.1 (int_min n.0 n.2))))

-- `bandspace`: the space of so many bands, in steps, with the padding between them and the padding at each end
abbrev pub space : List Cell → Option Cell
space args = else_null (three_numbers args) (λ n. number (space_of n.0 n.1 n.2))

-- whether a number lies between the two of a pair, in either order, both included; of other cells null
abbrev pub flag_of_within : Cell → Cell → Cell
flag_of_within a b =
    flag_or_null (the_number a >>= λ n. the_pair b >>= λ ends. Some (int_le (int_min ends.0 ends.1) n && int_le n (int_max ends.0 ends.1)))

-- `inrange`
abbrev pub within : List Cell → Option Cell
within [] = Some Null
within (a ∷ []) = Some Null
within (a ∷ b ∷ []) = Some (flag_of_within a b)
within (a ∷ b ∷ c ∷ more) = Some Null

-- how many units of UTF-16 a text has: one for each character up to U+FFFF, and two for each above
abbrev pub utf16_length : List ℕ → ℕ
utf16_length text = count_by (λ c. nat_le c 65535) (chars text) + 2 * count_by (λ c. nat_lt 65535 c) (chars text)

-- `length`: how many units of UTF-16 a text has; of another cell null
abbrev pub length_of : List Cell → Option Cell
length_of = of_one (λ a. else_null (the_text a) (λ text. number (pos (utf16_length text * million))))

-- `if`, of values: the second argument where the first counts as true, else the third
abbrev pub choice : List Cell → Option Cell
choice [] = Some Null
choice (a ∷ []) = Some Null
choice (a ∷ b ∷ []) = Some Null
choice (test ∷ first ∷ second ∷ []) = Some (if truth test then first else second)
choice (a ∷ b ∷ c ∷ d ∷ more) = Some Null
