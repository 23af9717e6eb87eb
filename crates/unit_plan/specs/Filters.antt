-- Filters, and the tests of conditions, as expressions: a row passes where the expression holds. A filter is an expression itself; or a test by
-- a parameter: for a selection, that it holds the row, and an empty one holds every row unless `empty` is false; for another parameter, its value; or a test of
-- a field; or several filters that all hold, or of which one holds, each asked only where those before leave it open; or the opposite of a
-- filter. All of no filters hold, and one of no filters doesn't. The test of a condition has the forms of a filter.
use Rattle.std.specs.Prelude.{◌≡◌, refl, ℕ, Bool, true, false, Option, Some, None, List, [], ◌∷◌, map, codes, unwrap_or, if◌then◌else◌}
use Rattle.expr_syntax.specs.declared.expr.BinOp.TheVariants.{Or, And, Like}
use Rattle.expr_syntax.specs.declared.expr.Expr.{Expr}
use Rattle.expr_syntax.specs.declared.expr.Expr.TheVariants as expr
use Rattle.vl_spec.specs.declared.channels.Test.{Test}
use Rattle.vl_spec.specs.declared.channels.Test.TheVariants as test
use Rattle.vl_spec.specs.declared.filters.Filter.{Filter, Filter-F, fold-Filter}
use Rattle.vl_spec.specs.declared.filters.Filter.TheOpen as level
use Rattle.vl_spec.specs.declared.filters.ParamTest.{ParamTest}
use Rattle.plan_kit.specs.Joins.{joined}
use Rattle.unit_plan.specs.Comparisons.{field_test}
use Rattle.plan_kit.specs.Literals.{whole}

-- that the store of a selection is empty
abbrev pub stored_none : List ℕ → Expr
stored_none name = expr.Binary Like (expr.Stored name) (whole 0)

-- that a selection holds the row, where an empty one holds all rows or none
abbrev pub selected : List ℕ → Bool → Expr
selected name empty = if empty then expr.Binary Or (stored_none name) (expr.Selected name) else expr.Selected name

-- a test by a parameter, where it is known which names are selections
abbrev pub param_test : (List ℕ → Bool) → ParamTest → Expr
param_test is_selection t = if is_selection t.param then selected t.param (unwrap_or t.empty true) else expr.Param t.param

abbrev pub filter_here : (List ℕ → Bool) → Filter-F Expr → Expr
filter_here is_selection (level.Expr e) = e
filter_here is_selection (level.Param t) = param_test is_selection t
filter_here is_selection (level.Field t) = field_test t
filter_here is_selection (level.And es) = joined And (expr.Flag true) es
filter_here is_selection (level.Or es) = joined Or (expr.Flag false) es
filter_here is_selection (level.Not e) = expr.Not e

abbrev pub filter_expr : (List ℕ → Bool) → Filter → Expr
filter_expr is_selection = fold-Filter Expr (filter_here is_selection)

-- the test of a condition
abbrev pub test_expr : (List ℕ → Bool) → Test → Expr
test_expr is_selection (test.Param t) = param_test is_selection t
test_expr is_selection (test.Filter f) = filter_expr is_selection f

-- that some expressions all hold; nothing is asked without any
abbrev pub all_of : List Expr → Option Expr
all_of [] = None
all_of (e ∷ others) = Some (joined And (expr.Flag true) (e ∷ others))

-- that some tests all hold
abbrev pub all_hold : (List ℕ → Bool) → List Test → Option Expr
all_hold is_selection tests = all_of (map (test_expr is_selection) tests)

-- The rules at work.

an_empty_selection_holds_all : param_test (λ name. true) (record { param = codes "s"; empty = None })
    ≡ expr.Binary Or (expr.Binary Like (expr.Stored (codes "s")) (whole 0)) (expr.Selected (codes "s"))
an_empty_selection_holds_all = refl

or_none : param_test (λ name. true) (record { param = codes "s"; empty = Some false }) ≡ expr.Selected (codes "s")
or_none = refl

another_parameter_by_its_value : param_test (λ name. false) (record { param = codes "p"; empty = Some false }) ≡ expr.Param (codes "p")
another_parameter_by_its_value = refl
