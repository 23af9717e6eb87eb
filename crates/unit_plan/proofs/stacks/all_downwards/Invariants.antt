use Rattle.std.proofs.Common.{◌≡◌, ◌++◌, drop, map}
use Rattle.unit_plan.specs.Stacks.{downwards}
use Rattle.unit_plan.proofs.stacks.all_downwards.Given as goal

abbrev pub invariant-loop-name : goal.invariant-loop-name
invariant-loop-name l = l.out ++ map downwards (drop l.name-index l.names) ≡ map downwards l.names
