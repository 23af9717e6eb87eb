-- Expressions and cells that stand under the names of members.
use Rattle.std.specs.Prelude.{ℕ, Option, List, codes}
use Rattle.std.specs.Option.{option_and_then, unwrap_or}
use Rattle.json_exact.specs.declared.json.Json.{Json, out-Json}
use Rattle.json_exact.specs.declared.json.Member.{Member}
use Rattle.json_exact.specs.Inside.{members_in}
use Rattle.cell_value.specs.declared.cell.Cell.{Cell}
use Rattle.cell_value.specs.declared.cell.Cell.TheVariants as cell
pub use Rattle.tree_readers.specs.Parts.{Opened, found_at, has_member, object_at, list_at, members_of, objects_at, flag_in, flag_at, number_at}
pub use Rattle.tree_readers.specs.Parts.{text_at, needed_text, text_of, texts_at, two_texts, two_texts_at, cell_in, cell_at}
use Rattle.expr_syntax.specs.declared.expr.Expr.{Expr}
use Rattle.expr_syntax.specs.declared.expr.Expr.TheVariants as expr
use Rattle.expr_reading.specs.Readings.{expression_of}

-- the expression under a name
abbrev pub expression_at : List Member → List ℕ → Option Expr
expression_at members name = option_and_then expression_of (text_at members name)

-- the expression under a name, null where there is none
abbrev pub needed_expression : List Member → List ℕ → Expr
needed_expression members name = unwrap_or (expression_at members name) expr.Null

-- the expression of an object `{"signal": EXPRESSION}` under a name
abbrev pub signal_at : List Member → List ℕ → Option Expr
signal_at members name = option_and_then (λ object. expression_at object (codes "signal")) (found_at members_in members name)

-- the cell that an item is, null where it is none
abbrev pub cell_of : Json → Cell
cell_of tree = unwrap_or (cell_in (out-Json tree)) cell.Null
