use Rattle.std.proofs.Common.{◌≡◌, ◌++◌, drop, map}
use Rattle.unit_plan.specs.Selections.{is_selection}
use Rattle.unit_plan.specs.Transforms.{step_of}
use Rattle.unit_plan.proofs.transforms.push_transforms.Given as goal

abbrev pub invariant-loop-transform : goal.invariant-loop-transform
invariant-loop-transform l =
    l.steps ++ map (step_of (is_selection l.names.params.now)) (map (λ t. t.now) (drop l.transform-index l.transforms))
    ≡ l.fn.steps ++ map (step_of (is_selection l.names.params.now)) (map (λ t. t.now) l.transforms)
