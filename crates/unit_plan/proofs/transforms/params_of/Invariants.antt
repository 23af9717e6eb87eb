use Rattle.std.proofs.Common.{◌≡◌, ◌++◌, drop, map}
use Rattle.unit_plan.specs.Transforms.{param_of}
use Rattle.unit_plan.proofs.transforms.params_of.Given as goal

abbrev pub invariant-loop-of : goal.invariant-loop-of
invariant-loop-of l = l.out ++ map param_of (drop l.of-index l.ops) ≡ map param_of l.ops
