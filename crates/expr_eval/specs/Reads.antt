-- How many cells the evaluation of an expression may read.
use Rattle.std.specs.Prelude.{ℕ, ◌+◌, length, sum}
use Rattle.expr_syntax.specs.declared.expr.Expr.{Expr, Expr-F, fold-Expr}
use Rattle.expr_syntax.specs.declared.expr.Expr.TheOpen as form
use Rattle.expr_eval.specs.Values.{Values}

-- one for each mention of a field, and for each selection test the fields of its store
abbrev pub reads_here : Values → Expr-F ℕ → ℕ
reads_here values form.Null = 0
reads_here values (form.Flag b) = 0
reads_here values (form.Number n) = 0
reads_here values (form.Text t) = 0
reads_here values (form.Field name) = 1
reads_here values (form.Param name) = 0
reads_here values (form.Member name field) = 0
reads_here values (form.Not a) = a
reads_here values (form.Minus a) = a
reads_here values (form.Plus a) = a
reads_here values (form.Binary op a b) = a + b
reads_here values (form.Choose test first second) = test + first + second
reads_here values (form.Pair a b) = a + b
reads_here values (form.Call code args) = sum args
reads_here values (form.Selected store) = length (values.fields store)
reads_here values (form.Stored store) = 0
reads_here values (form.DomainLength scale) = 0

abbrev pub reads_of : Values → Expr → ℕ
reads_of values = fold-Expr ℕ (reads_here values)
