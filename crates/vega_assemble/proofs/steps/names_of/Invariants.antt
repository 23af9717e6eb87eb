use Rattle.std.proofs.Common.{◌≡◌, ◌++◌, drop}
use Rattle.vega_assemble.specs.Steps.{names_of}
use Rattle.vega_assemble.proofs.steps.names_of.Given as goal

abbrev pub invariant-loop-op : goal.invariant-loop-op
invariant-loop-op l =
    l.out ++ names_of (drop l.op-index l.ops) ≡ names_of l.ops
