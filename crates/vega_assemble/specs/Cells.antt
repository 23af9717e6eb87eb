-- Cells that are shown of a row, as expressions: that of a field, one that is written, or what is computed.
use Rattle.std.specs.Prelude.{◌≡◌, refl, ℕ, List, Option}
use Rattle.std.specs.Option.{option_map_or}
use Rattle.cell_value.specs.declared.cell.Cell.TheVariants as cell
use Rattle.expr_syntax.specs.declared.expr.Expr.{Expr}
use Rattle.expr_syntax.specs.declared.expr.Expr.TheVariants as expr
use Rattle.plan_kit.specs.declared.cells.CellOf.{CellOf}
use Rattle.plan_kit.specs.declared.cells.CellOf.TheVariants as shows
use Rattle.plan_kit.specs.Literals.{literal}

abbrev pub cell_expr : CellOf → Expr
cell_expr (shows.Field name) = expr.Field name
cell_expr (shows.Written written) = literal written
cell_expr (shows.Computed e) = e

-- the cell of a field; without a field it is null
abbrev pub field_expr : Option (List ℕ) → Expr
field_expr field = option_map_or expr.Field field expr.Null

-- The rules at work.

a_written_null : cell_expr (shows.Written cell.Null) ≡ expr.Null
a_written_null = refl
