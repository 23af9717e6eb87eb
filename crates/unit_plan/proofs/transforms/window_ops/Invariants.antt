use Rattle.std.proofs.Common.{◌≡◌, ◌++◌, drop, map}
use Rattle.unit_plan.specs.Transforms.{window_op}
use Rattle.unit_plan.proofs.transforms.window_ops.Given as goal

abbrev pub invariant-loop-of : goal.invariant-loop-of
invariant-loop-of l = l.out ++ map window_op (drop l.of-index l.ops) ≡ map window_op l.ops
