-- What operators give for the values of their operands.
use Rattle.std.specs.Prelude.{ℤ, pos, neg_ℤ, ◌+ℤ◌, ◌-ℤ◌, ◌*ℤ◌, int_div, ◌++◌, ◌==◌, ◌&&◌, ◌||◌, not, Bool, false, Option, Some, None}
use Rattle.std.specs.Prelude.{if◌then◌else◌}
use Rattle.std.specs.Option.{option_map}
use Rattle.std.specs.declared.cmp.Ordering.{Ordering}
use Rattle.std.specs.Ordering.{nat_cmp, int_cmp, int_eq, is_lt, is_le, is_gt, is_ge}
use Rattle.std.specs.Cmp.Lexicographic.{slice_cmp}
use Rattle.fixed_num.specs.Number.{million, rounded, rounded_ratio}
use Rattle.cell_value.specs.declared.cell.Cell.{Cell}
use Rattle.cell_value.specs.declared.cell.Cell.TheVariants.{Null, Flag, Number, Text, Pair}
use Rattle.cell_value.specs.Cell.{kind, same_cells, truth}
use Rattle.cell_value.specs.Display.{display_of}
use Rattle.expr_syntax.specs.declared.expr.BinOp.{BinOp}
use Rattle.expr_syntax.specs.declared.expr.BinOp.TheVariants.{Or, And, Like, NotLike, Same, NotSame, Less, LessSame, More, MoreSame, Add}
use Rattle.expr_syntax.specs.declared.expr.BinOp.TheVariants.{Sub, Mul, Div, Rem}
use Rattle.fixed_num.specs.Ranges.{◌>>=◌}
use Rattle.expr_eval.specs.Ranges.{number}
use Rattle.expr_eval.specs.Numbers.{is_text, is_pair, the_number, else_null, cell_number}

-- two numbers that are there and equal
abbrev pub equal_numbers : Option ℤ → Option ℤ → Bool
equal_numbers None b = false
equal_numbers (Some a) None = false
equal_numbers (Some a) (Some b) = int_eq a b

-- `==`: two cells of one kind where they are the same; cells of two kinds where they stand for one number, so a null,
-- a pair and a text that spells no number equal nothing of another kind
abbrev pub like : Cell → Cell → Bool
like a b = if kind a == kind b then same_cells a b else equal_numbers (cell_number a) (cell_number b)

-- how two numbers, or two texts by their bytes, stand to each other
abbrev pub order_of : Cell → Cell → Option Ordering
order_of (Number a) (Number b) = Some (int_cmp a b)
order_of (Text a) (Text b) = Some (slice_cmp nat_cmp a b)
order_of a b = None

-- a flag, null where there is none
abbrev pub flag_or_null : Option Bool → Cell
flag_or_null None = Null
flag_or_null (Some b) = Flag b

-- `<`, `<=`, `>`, `>=`: a test of how two numbers or two texts stand to each other; of other cells null
abbrev pub compared : (Ordering → Bool) → Cell → Cell → Cell
compared holds a b = flag_or_null (option_map holds (order_of a b))

-- two numbers
abbrev pub two_numbers : Cell → Cell → Option (ℤ × ℤ)
two_numbers a b = the_number a >>= λ x. the_number b >>= λ y. Some (x, y)

-- an operation on two numbers; of other cells null
abbrev pub on_numbers : (ℤ → ℤ → Option Cell) → Cell → Cell → Option Cell
on_numbers f a b = else_null (two_numbers a b) (λ n. f n.0 n.1)

-- whether `+` joins: one cell is a text, and none is a pair
abbrev pub joins : Cell → Cell → Bool
joins a b = (is_text a || is_text b) && not (is_pair a) && not (is_pair b)

-- the displays of two cells, one after the other
abbrev pub joined : Cell → Cell → Cell
joined a b = Text (display_of a ++ display_of b)

-- the sum of two numbers
abbrev pub total : ℤ → ℤ → Option Cell
total x y = number (x +ℤ y)

-- `+`: the joined displays, where it joins; else the sum of two numbers
abbrev pub added : Cell → Cell → Option Cell
added a b = if joins a b then Some (joined a b) else on_numbers total a b

-- `-`
abbrev pub difference : ℤ → ℤ → Option Cell
difference x y = number (x -ℤ y)

-- `*`: the product, rounded to the nearest millionth
abbrev pub product : ℤ → ℤ → Option Cell
product x y = number (rounded (x *ℤ y) million)

-- `/`: the quotient, rounded to the nearest millionth; over 0 null
abbrev pub quotient : ℤ → ℤ → Option Cell
quotient x y = if int_eq y (pos 0) then Some Null else number (rounded_ratio (x *ℤ pos million) y)

-- `%`: what is left of a number when another one is taken from it as often as the whole part of the exact quotient says;
-- over 0 null
abbrev pub remainder : ℤ → ℤ → Option Cell
remainder x y = if int_eq y (pos 0) then Some Null else number (x -ℤ y *ℤ int_div x y)

-- unary `-`: the number as far on the other side of 0; of another cell null
abbrev pub negated : Cell → Option Cell
negated a = else_null (the_number a) (λ n. number (neg_ℤ n))

-- what an operator gives for two operands
abbrev pub operated : BinOp → Cell → Cell → Option Cell
operated Or a b = Some (if truth a then a else b)
operated And a b = Some (if truth a then b else a)
operated Like a b = Some (Flag (like a b))
operated NotLike a b = Some (Flag (not (like a b)))
operated Same a b = Some (Flag (same_cells a b))
operated NotSame a b = Some (Flag (not (same_cells a b)))
operated Less a b = Some (compared is_lt a b)
operated LessSame a b = Some (compared is_le a b)
operated More a b = Some (compared is_gt a b)
operated MoreSame a b = Some (compared is_ge a b)
operated Add a b = added a b
operated Sub a b = on_numbers difference a b
operated Mul a b = on_numbers product a b
operated Div a b = on_numbers quotient a b
operated Rem a b = on_numbers remainder a b

-- the operators whose left operand may decide: `||` where it counts as true, `&&` where it doesn't
abbrev pub decides : BinOp → Cell → Bool
decides Or a = truth a
decides And a = not (truth a)
decides op a = false

-- what an operator gives for its left operand and for what becomes of the right one, which isn't needed where the left one
-- decides
abbrev pub combined : BinOp → Cell → Option Cell → Option Cell
combined op a right = if decides op a then Some a else right >>= operated op a

-- what an operator gives for what becomes of its operands
abbrev pub binary_of : BinOp → Option Cell → Option Cell → Option Cell
binary_of op left right = left >>= λ a. combined op a right

-- a pair, null where there is none
abbrev pub pair_or_null : Option (ℤ × ℤ) → Cell
pair_or_null None = Null
pair_or_null (Some n) = Pair n.0 n.1

-- `[a, b]`: the pair of two numbers; of other cells null
abbrev pub paired : Cell → Cell → Cell
paired a b = pair_or_null (two_numbers a b)
