use Rattle.std.proofs.Common.{◌≡◌, ◌++◌, drop, map}
use Rattle.unit_plan.specs.Filters.{filter_expr}
use Rattle.unit_plan.specs.Selections.{is_selection}
use Rattle.unit_plan.proofs.filters.+filters.Given as goal

abbrev pub invariant-push_filters-loop-filter : goal.invariant-push_filters-loop-filter
invariant-push_filters-loop-filter l =
    l.out ++ map (filter_expr (is_selection l.names.params.now)) (drop l.filter-index l.filters)
    ≡ l.fn.out ++ map (filter_expr (is_selection l.names.params.now)) l.filters
