use Rattle.std.proofs.Common.{◌≡◌, ◌++◌, drop, flat_map, map}
use Rattle.vl_rules.specs.inner.Held.{all_of_condition}
use Rattle.vl_rules.proofs.meant.+definitions.Given as goal

abbrev pub invariant-push_each-loop-condition : goal.invariant-push_each-loop-condition
invariant-push_each-loop-condition l =
    map (λ d. d.now) l.out ++ flat_map all_of_condition (drop l.condition-index l.condition-items)
    ≡ map (λ d. d.now) l.fn.out ++ flat_map all_of_condition l.condition-items
