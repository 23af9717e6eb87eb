-- Comparisons of a field, as expressions that hold for the cells that pass. `equal` and `oneOf` are sameness. `lt`, `lte`, `gt` and `gte` hold for
-- two numbers or two texts. `range` holds for numbers between the two given, both included, in either order; a null is open, and two nulls hold for
-- every cell.
-- `valid` holds for cells that aren't null, or with false for null. With a unit of time its start at the cell is compared, with a given
-- number, or with the instant of a given text.
use Rattle.std.specs.Prelude.{◌≡◌, refl, ℕ, ℤ, pos, Bool, true, false, Option, Some, None, [], ◌∷◌, map, codes, is_some}
use Rattle.std.specs.Option.{option_map_or}
use Rattle.cell_value.specs.declared.cell.Cell.{Cell}
use Rattle.cell_value.specs.declared.cell.Cell.TheVariants as cell
use Rattle.expr_syntax.specs.declared.expr.BinOp.{BinOp}
use Rattle.expr_syntax.specs.declared.expr.BinOp.TheVariants.{Or, Same, Less, LessSame, More, MoreSame}
use Rattle.expr_syntax.specs.declared.expr.Expr.{Expr}
use Rattle.expr_syntax.specs.declared.expr.Expr.TheVariants as expr
use Rattle.vl_spec.specs.declared.filters.Comparison.{Comparison}
use Rattle.vl_spec.specs.declared.filters.Comparison.TheVariants as compare
use Rattle.vl_spec.specs.declared.filters.FieldTest.{FieldTest}
use Rattle.unit_plan.specs.declared.codes.TheConstants.{IS_VALID, TO_DATE, IN_RANGE}
use Rattle.plan_kit.specs.Joins.{joined, paired_times}
use Rattle.plan_kit.specs.Literals.{number_expr, literal}
use Rattle.unit_plan.specs.Starts.{start_by}

-- what is compared: the cell of the field, or the start of its unit of time
abbrev pub subject : FieldTest → Expr
subject t = option_map_or (λ code. start_by code t.field) t.time_unit (expr.Field t.field)

-- what it is compared with: with a unit of time a text stands for its instant
abbrev pub given : Bool → Cell → Expr
given true (cell.Text text) = expr.Call TO_DATE (expr.Text text ∷ [])
given true cell.Null = literal cell.Null
given true (cell.Flag flag) = literal (cell.Flag flag)
given true (cell.Number n) = literal (cell.Number n)
given true (cell.Pair a b) = literal (cell.Pair a b)
given false c = literal c

abbrev pub compared : FieldTest → BinOp → Cell → Expr
compared t op c = expr.Binary op (subject t) (given (is_some t.time_unit) c)

-- that a number is between two bounds, of which each may be open
abbrev pub between : Expr → Option ℤ → Option ℤ → Expr
between e (Some low) (Some high) = expr.Call IN_RANGE (e ∷ expr.Pair (number_expr low) (number_expr high) ∷ [])
between e (Some low) None = expr.Binary MoreSame e (number_expr low)
between e None (Some high) = expr.Binary LessSame e (number_expr high)
between e None None = expr.Flag true

-- that a cell isn't null, or that it is
abbrev pub is_there : Expr → Bool → Expr
is_there e true = expr.Call IS_VALID (e ∷ [])
is_there e false = expr.Not (expr.Call IS_VALID (e ∷ []))

abbrev pub compared_by : FieldTest → Comparison → Expr
compared_by t (compare.Equal c) = compared t Same c
compared_by t (compare.Less c) = compared t Less c
compared_by t (compare.LessSame c) = compared t LessSame c
compared_by t (compare.More c) = compared t More c
compared_by t (compare.MoreSame c) = compared t MoreSame c
compared_by t (compare.Range low high) = between (subject t) low high
compared_by t (compare.OneOf cells) = joined Or (expr.Flag false) (map (compared t Same) cells)
compared_by t (compare.Valid valid) = is_there (subject t) valid

abbrev pub field_test : FieldTest → Expr
field_test t = compared_by t t.comparison

-- The rules at work.

-- a test of the field `a`
abbrev of_a : Option ℕ → Comparison → FieldTest
of_a unit c = record { field = codes "a"; time_unit = unit; comparison = c }

a_text_is_same : field_test (of_a None (compare.Equal (cell.Text (codes "u")))) ≡ expr.Binary Same (expr.Field (codes "a")) (expr.Text (codes "u"))
a_text_is_same = refl

from_two_on : field_test (of_a None (compare.Range (Some (pos 2000000)) None)) ≡ expr.Binary MoreSame (expr.Field (codes "a")) (expr.Number (pos 2000000))
from_two_on = refl

every_cell : field_test (of_a None (compare.Range None None)) ≡ expr.Flag true
every_cell = refl

no_cell_of_none : field_test (of_a None (compare.OneOf [])) ≡ expr.Flag false
unfolding joined paired_times
no_cell_of_none = refl

null_alone : field_test (of_a None (compare.Valid false)) ≡ expr.Not (expr.Call IS_VALID (expr.Field (codes "a") ∷ []))
null_alone = refl

a_text_in_years : field_test (of_a (Some 0) (compare.Less (cell.Text (codes "2012"))))
    ≡ expr.Binary Less (start_by 0 (codes "a")) (expr.Call TO_DATE (expr.Text (codes "2012") ∷ []))
a_text_in_years = refl
