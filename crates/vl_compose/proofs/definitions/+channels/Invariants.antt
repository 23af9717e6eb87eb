use Rattle.std.proofs.Common.{◌≡◌, ◌++◌, drop, map}
use Rattle.std.specs.List.{flat_map}
use Rattle.vl_compose.specs.inner.Conditioned.{of_condition}
use Rattle.vl_compose.proofs.definitions.+channels.Given as goal

abbrev pub invariant-push_each-loop-condition : goal.invariant-push_each-loop-condition
invariant-push_each-loop-condition l =
    map (λ d. d.now) l.out ++ flat_map of_condition (drop l.condition-index l.condition-items)
    ≡ map (λ d. d.now) l.fn.out ++ flat_map of_condition l.condition-items
