use Rattle.std.proofs.Common.{◌≡◌, ◌++◌, drop, map}
use Rattle.unit_plan.specs.Transforms.{sort_by}
use Rattle.unit_plan.proofs.transforms.sorts_by.Given as goal

abbrev pub invariant-loop-of : goal.invariant-loop-of
invariant-loop-of l = l.out ++ map sort_by (drop l.of-index l.fields) ≡ map sort_by l.fields
