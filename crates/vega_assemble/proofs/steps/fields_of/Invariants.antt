use Rattle.std.proofs.Common.{◌≡◌, ◌++◌, drop}
use Rattle.vega_assemble.specs.Steps.{fields_of}
use Rattle.vega_assemble.proofs.steps.fields_of.Given as goal

abbrev pub invariant-loop-op : goal.invariant-loop-op
invariant-loop-op l =
    l.out ++ fields_of (drop l.op-index l.ops) ≡ fields_of l.ops
