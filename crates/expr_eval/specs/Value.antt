-- The value of an expression.
use Rattle.std.specs.Prelude.{◌*◌, pos, not, Bool, Option, Some}
use Rattle.std.specs.Option.{option_map}
use Rattle.fixed_num.specs.Number.{million}
use Rattle.cell_value.specs.declared.cell.Cell.{Cell}
use Rattle.cell_value.specs.declared.cell.Cell.TheVariants.{Null, Flag, Number, Text}
use Rattle.cell_value.specs.Cell.{truth}
use Rattle.cell_value.specs.Datum.{CellAt}
use Rattle.expr_syntax.specs.declared.expr.Expr.{Expr, Expr-F, fold-Expr}
use Rattle.expr_syntax.specs.declared.expr.Expr.TheOpen as form
use Rattle.fixed_num.specs.Ranges.{◌>>=◌}
use Rattle.expr_eval.specs.Ranges.{number}
use Rattle.expr_eval.specs.Numbers.{cell_number, number_or_null}
use Rattle.expr_eval.specs.Operations.{negated, binary_of, paired}
use Rattle.expr_eval.specs.Table.{called, chosen}
use Rattle.expr_eval.specs.Values.{Values}

-- what a form gives over a row and values of parameters, where its parts stand as what becomes of them; a parameter without value gives none
abbrev pub value_here : CellAt → Values → Expr-F (Option Cell) → Option Cell
value_here row values form.Null = Some Null
value_here row values (form.Flag b) = Some (Flag b)
value_here row values (form.Number n) = Some (Number n)
value_here row values (form.Text t) = Some (Text t)
value_here row values (form.Field name) = Some (row name)
value_here row values (form.Param name) = values.value name
value_here row values (form.Member name field) = Some (values.member name field)
value_here row values (form.Not a) = a >>= λ x. Some (Flag (not (truth x)))
value_here row values (form.Minus a) = a >>= negated
value_here row values (form.Plus a) = a >>= λ x. Some (number_or_null (cell_number x))
value_here row values (form.Binary op a b) = binary_of op a b
value_here row values (form.Choose test first second) = chosen test first second
value_here row values (form.Pair a b) = a >>= λ x. b >>= λ y. Some (paired x y)
value_here row values (form.Call code outcomes) = called code outcomes
value_here row values (form.Selected store) = Some (Flag (values.selects store row))
value_here row values (form.Stored store) = number (pos (values.stored store * million))
value_here row values (form.DomainLength scale) = number (pos (values.domain_length scale * million))

-- the value of an expression over a row and values of parameters; None where it is Overflow
abbrev pub value_of : CellAt → Values → Expr → Option Cell
value_of row values = fold-Expr (Option Cell) (value_here row values)

-- whether the value of a test over a row counts as true; None where it is Overflow
abbrev pub truth_of : CellAt → Values → Expr → Option Bool
truth_of row values test = option_map truth (value_of row values test)
