-- Expressions in which no length of a domain stands. Only private contracts cite this.
use Rattle.std.specs.Prelude.{Option, Some, None, if◌then◌else◌}
use Rattle.expr_syntax.specs.declared.expr.Expr.{Expr}
use Rattle.expr_syntax.specs.Expressions.{has_domain_length}

-- an expression, if no length of a domain stands in it
abbrev pub without_domain : Expr → Option Expr
without_domain e = if has_domain_length e then None else Some e
