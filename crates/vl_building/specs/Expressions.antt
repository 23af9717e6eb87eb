-- Expressions under the names of members.
use Rattle.std.specs.Prelude.{ℕ, Option, Some, None, List, if◌then◌else◌}
use Rattle.std.specs.Option.{option_and_then, unwrap_or}
use Rattle.json_exact.specs.declared.json.Member.{Member}
use Rattle.expr_syntax.specs.declared.expr.Expr.{Expr}
use Rattle.expr_syntax.specs.declared.expr.Expr.TheVariants as expr
use Rattle.expr_syntax.specs.Expressions.{has_domain_length}
use Rattle.expr_reading.specs.Readings.{expression_of}
use Rattle.tree_readers.specs.Parts.{text_at}

-- an expression, if no length of a domain stands in it
abbrev pub plain_expression : Expr → Option Expr
plain_expression e = if has_domain_length e then None else Some e

-- the expression that a text is, none where the length of a domain stands in it
abbrev pub expression_in : List ℕ → Option Expr
expression_in text = option_and_then plain_expression (expression_of text)

-- the expression under a name
abbrev pub expression_at : List Member → List ℕ → Option Expr
expression_at members name = option_and_then expression_in (text_at members name)

-- the expression under a name, null where there is none
abbrev pub needed_expression : List Member → List ℕ → Expr
needed_expression members name = unwrap_or (expression_at members name) expr.Null
