use Rattle.std.proofs.Common.{◌≡◌, ◌++◌, drop}
use Rattle.std.specs.List.{flat_map}
use Rattle.vega_assemble.specs.Mentioned.{in_op}
use Rattle.vega_assemble.specs.inner.Lent.{lent}
use Rattle.vega_assemble.proofs.mentioned.push_ops.Given as goal

abbrev pub invariant-loop-op : goal.invariant-loop-op
invariant-loop-op l =
    lent l.out ++ flat_map in_op (drop l.op-index l.ops) ≡ lent l.fn.out ++ flat_map in_op l.ops
