use Rattle.std.proofs.Common.{◌≡◌, ◌++◌, drop}
use Rattle.vega_assemble.specs.inner.Lent.{lent}
use Rattle.vega_assemble.proofs.mentioned.push_all.Given as goal

abbrev pub invariant-loop-name : goal.invariant-loop-name
invariant-loop-name l =
    lent l.out ++ drop l.name-index l.names ≡ lent l.fn.out ++ l.names
