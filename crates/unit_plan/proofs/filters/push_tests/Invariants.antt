use Rattle.std.proofs.Common.{◌≡◌, ◌++◌, drop, map}
use Rattle.unit_plan.specs.Filters.{test_expr}
use Rattle.unit_plan.specs.Selections.{is_selection}
use Rattle.unit_plan.proofs.filters.push_tests.Given as goal

abbrev pub invariant-loop-test : goal.invariant-loop-test
invariant-loop-test l =
    l.out ++ map (test_expr (is_selection l.names.params.now)) (map (λ t. t.now) (drop l.test-index l.tests))
    ≡ l.fn.out ++ map (test_expr (is_selection l.names.params.now)) (map (λ t. t.now) l.tests)
