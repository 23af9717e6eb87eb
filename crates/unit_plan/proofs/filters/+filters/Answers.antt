use Rattle.std.proofs.Common.{◌≡◌, subst}
use Rattle.std.specs.Prelude.{IfOk}
use Rattle.expr_syntax.specs.declared.expr.Expr.{Expr}
use Rattle.unit_plan.specs.Selections.{is_selection}
use Rattle.unit_plan.proofs.FilterLemmas.{and_filter, or_filter, not_filter}
use Rattle.unit_plan.proofs.filters.+filters.Goals as goal

pub filter_expr-returns-in-And : goal.filter_expr-returns-in-And
filter_expr-returns-in-And t c =
    let given : Expr → Type 0 = λ x. IfOk c.joined_filters.result (λ e. e ≡ x) in
    subst given (and_filter (is_selection c.args.names.now.params.now) c.args.filter.now c.in-And.filters c.in-And.is) c.joined_filters.ensures

pub filter_expr-returns-in-Or : goal.filter_expr-returns-in-Or
filter_expr-returns-in-Or t c =
    let given : Expr → Type 0 = λ x. IfOk c.joined_filters-in-Or.result (λ e. e ≡ x) in
    subst given (or_filter (is_selection c.args.names.now.params.now) c.args.filter.now c.in-Or.filters c.in-Or.is) c.joined_filters-in-Or.ensures

pub filter_expr-returns-in-Not : goal.filter_expr-returns-in-Not
filter_expr-returns-in-Not t c =
    let given : Expr → Type 0 = λ x. IfOk c.opposite_filter.result (λ e. e ≡ x) in
    subst given (not_filter (is_selection c.args.names.now.params.now) c.args.filter.now c.in-Not.filter c.in-Not.is) c.opposite_filter.ensures
