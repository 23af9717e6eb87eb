-- Expressions where no length of a domain may stand: in scripts, and in specifications almost everywhere.
use Rattle.std.specs.Prelude.{◌≡◌, refl, ℕ, Bool, true, false, ◌||◌, Option, Some, List, [], ◌∷◌, codes}
use Rattle.std.specs.List.{list_any}
use Rattle.expr_syntax.specs.declared.expr.Expr.{Expr, Expr-F, fold-Expr}
use Rattle.expr_syntax.specs.declared.expr.Expr.TheOpen as form
use Rattle.expr_syntax.specs.Grammar.{HasReading}

-- whether the length of a domain stands in a form, from whether it stands in its parts
abbrev pub has_domain_here : Expr-F Bool → Bool
has_domain_here form.Null = false
has_domain_here (form.Flag b) = false
has_domain_here (form.Number n) = false
has_domain_here (form.Text t) = false
has_domain_here (form.Field name) = false
has_domain_here (form.Param name) = false
has_domain_here (form.Member name field) = false
has_domain_here (form.Not a) = a
has_domain_here (form.Minus a) = a
has_domain_here (form.Plus a) = a
has_domain_here (form.Binary op a b) = a || b
has_domain_here (form.Choose test first second) = test || (first || second)
has_domain_here (form.Pair a b) = a || b
has_domain_here (form.Call code args) = list_any (λ arg. arg) args
has_domain_here (form.Selected store) = false
has_domain_here (form.Stored store) = false
has_domain_here (form.DomainLength scale) = true

-- whether the length of a domain stands anywhere in an expression
abbrev pub has_domain_length : Expr → Bool
has_domain_length = fold-Expr Bool has_domain_here

-- the text reads as this expression, and the length of a domain doesn't stand in it
pub record IsExpression (text : List ℕ) (e : Expr) : Type 0 where
  pub reads : HasReading text e
  pub no_domain : has_domain_length e ≡ false

-- a way to read such expressions is the right one: it gives exactly what texts read as
pub record ReadsExpressions (expression_of : List ℕ → Option Expr) : Type 0 where
  pub sound : (text : List ℕ) (e : Expr) → expression_of text ≡ Some e → IsExpression text e
  pub complete : (text : List ℕ) (e : Expr) → IsExpression text e → expression_of text ≡ Some e

-- there is a right way: each text reads as such an expression, or as none
abbrev pub ExpressionsAreRead : Type 0
ExpressionsAreRead = (expression_of : List ℕ → Option Expr) × ReadsExpressions expression_of

-- The rules at work.

it_stands_in_an_argument : has_domain_here (form.Call 7 (false ∷ true ∷ [])) ≡ true
it_stands_in_an_argument = refl

the_length_of_a_store_is_none : has_domain_here (form.Stored (codes "brush")) ≡ false
the_length_of_a_store_is_none = refl
