use Rattle.std.proofs.Common.{◌≡◌, ◌++◌, drop}
use Rattle.vega_assemble.specs.Steps.{codes_of}
use Rattle.vega_assemble.proofs.steps.codes_of.Given as goal

abbrev pub invariant-loop-op : goal.invariant-loop-op
invariant-loop-op l =
    l.out ++ codes_of (drop l.op-index l.ops) ≡ codes_of l.ops
