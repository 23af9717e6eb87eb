-- Cells that are written, as expressions. A number in an expression has no sign, so one below zero is the opposite of its size.
use Rattle.std.specs.Prelude.{◌≡◌, refl, ℕ, ◌*◌, ℤ, pos, neg_ℤ, int_lt, [], if◌then◌else◌}
use Rattle.fixed_num.specs.Number.{million}
use Rattle.cell_value.specs.declared.cell.Cell.{Cell}
use Rattle.cell_value.specs.declared.cell.Cell.TheVariants.{Null, Flag, Number, Text, Pair}
use Rattle.expr_syntax.specs.declared.expr.Expr.{Expr}
use Rattle.expr_syntax.specs.declared.expr.Expr.TheVariants as expr

-- a whole number
abbrev pub whole : ℕ → Expr
whole n = expr.Number (pos (n * million))

abbrev pub number_expr : ℤ → Expr
number_expr n = if int_lt n (pos 0) then expr.Minus (expr.Number (neg_ℤ n)) else expr.Number n

abbrev pub literal : Cell → Expr
literal Null = expr.Null
literal (Flag flag) = expr.Flag flag
literal (Number n) = number_expr n
literal (Text text) = expr.Text text
literal (Pair a b) = expr.Pair (number_expr a) (number_expr b)

-- The rules at work.

minus_two : literal (Number (neg_ℤ (pos (2 * million)))) ≡ expr.Minus (expr.Number (pos (2 * million)))
minus_two = refl

the_empty_text : literal (Text []) ≡ expr.Text []
the_empty_text = refl
