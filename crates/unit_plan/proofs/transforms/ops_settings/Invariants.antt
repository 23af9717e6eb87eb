use Rattle.std.proofs.Common.{◌≡◌, ◌++◌, drop, map}
use Rattle.unit_plan.specs.Transforms.{op_settings}
use Rattle.unit_plan.proofs.transforms.ops_settings.Given as goal

abbrev pub invariant-loop-of : goal.invariant-loop-of
invariant-loop-of l = l.out ++ map op_settings (drop l.of-index l.ops) ≡ map op_settings l.ops
