use Rattle.std.proofs.Common.{◌≡◌, ◌++◌, drop, map}
use Rattle.std.specs.List.{flat_map}
use Rattle.unit_plan.specs.inner.Lent.{branches_shown, under_condition}
use Rattle.unit_plan.proofs.branches.+branches.Given as goal

abbrev pub invariant-push_each-loop-condition : goal.invariant-push_each-loop-condition
invariant-push_each-loop-condition l =
    branches_shown l.out ++ flat_map (λ c. under_condition c (map (λ t. t.now) l.outer)) (drop l.condition-index l.condition-items)
    ≡ branches_shown l.fn.out ++ flat_map (λ c. under_condition c (map (λ t. t.now) l.outer)) l.condition-items
