-- Filters by what they are.
use Rattle.std.proofs.Common.{◌≡◌, ℕ, Bool, true, false, List, map, sym, ap, ◌∙◌}
use Rattle.expr_syntax.specs.declared.expr.BinOp.TheVariants.{Or, And}
use Rattle.expr_syntax.specs.declared.expr.Expr.{Expr}
use Rattle.expr_syntax.specs.declared.expr.Expr.TheVariants as expr
use Rattle.vl_spec.specs.declared.filters.Filter.{Filter, Filter-F, out-Filter, out-roll-Filter, map-Filter, fold_out-Filter}
use Rattle.vl_spec.specs.declared.filters.Filter.TheVariants as filter
use Rattle.vl_spec.specs.declared.filters.Filter.TheVariants.{rolls-And, rolls-Or, rolls-Not}
use Rattle.vl_spec.specs.declared.filters.Filter.TheOpen as level
use Rattle.unit_plan.specs.Filters.{filter_here, filter_expr}
use Rattle.plan_kit.specs.Joins.{joined}

opens_as : (s : List ℕ → Bool) (f : Filter) (o : Filter-F Filter) → out-Filter f ≡ o →
    filter_expr s f ≡ filter_here s (map-Filter Filter Expr (filter_expr s) o)
opens_as s f o is = fold_out-Filter Expr (filter_here s) f ∙ ap (λ p. filter_here s (map-Filter Filter Expr (filter_expr s) p)) is

pub and_filter : (s : List ℕ → Bool) (f : Filter) (fs : List Filter) → f ≡ filter.And fs →
    joined And (expr.Flag true) (map (filter_expr s) fs) ≡ filter_expr s f
and_filter s f fs is = sym (opens_as s f (level.And fs) (ap out-Filter (is ∙ sym (rolls-And fs)) ∙ out-roll-Filter (level.And fs)))

pub or_filter : (s : List ℕ → Bool) (f : Filter) (fs : List Filter) → f ≡ filter.Or fs → joined Or (expr.Flag false) (map (filter_expr s) fs) ≡ filter_expr s f
or_filter s f fs is = sym (opens_as s f (level.Or fs) (ap out-Filter (is ∙ sym (rolls-Or fs)) ∙ out-roll-Filter (level.Or fs)))

pub not_filter : (s : List ℕ → Bool) (f g : Filter) → f ≡ filter.Not g → expr.Not (filter_expr s g) ≡ filter_expr s f
not_filter s f g is = sym (opens_as s f (level.Not g) (ap out-Filter (is ∙ sym (rolls-Not g)) ∙ out-roll-Filter (level.Not g)))
